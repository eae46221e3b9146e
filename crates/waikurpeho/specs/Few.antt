-- A count of findings, and a file's length, are far below 2^32, so that an answer's two parts do not mix.
use Rattle.std.specs.Prelude.{◌≡◌, refl, Bool, true, false, cond, ◌&&◌, ◌||◌, List, [], ◌∷◌, ℕ, zero, suc, ◌+◌, ◌*◌, ◌/◌, ◌<◌, ◌≤◌, eqb, ltb, leb, length}
use Rattle.std.specs.Prelude.{Float, Result, Ok, Err}
use Rattle.std.proofs.Math.Bool.{not}
use Rattle.std.proofs.Common.{le_refl, suc-mul, eqb-true}
use native.Mathlib.Omega.{arith}
use Rattle.std.proofs.Math.ListN.{length-append, get_or}
use Rattle.std.specs.Float.Ieee.{binary64, to_bits, lt}
use Rattle.floats.specs.Ops.{◌⊕◌, none}
use Rattle.lists.specs.Below.{any_below, all_below, is_at}
use Rattle.domain.specs.Bounds.{most_kinds, most_lines, most_unplaced}
use Rattle.measures.specs.Asked.{asked_of}
use Rattle.check_pair.specs.declared.Extent.{Extent}
use Rattle.measures.specs.declared.Kind.{Kind}
use Rattle.measures.specs.declared.Container.{Container}
use Rattle.measures.specs.Orders.{share_of}
use Rattle.sheet.specs.declared.Line.{Line}
use Rattle.sheet.specs.declared.Sheet.{Sheet}
use Rattle.sheet.specs.Sheets.{sheet_refusal}
use Rattle.sheet.specs.Accepted.{Few, accepted}
use Rattle.check_pair.specs.declared.Verdict.{Verdict}
use Rattle.check_pair.specs.declared.Verdict.TheVariants.{Apart, Overlap, TooClose}
use Rattle.check_pair.specs.Tolerance.{tolerance_of}
use Rattle.check_words.specs.Words.{only_if}
use Rattle.check_list.specs.Finding.{in_range, box_inside, name_words, repeat_words, place_words, verdict_words, mass_words, lost_words, wrong_words}
use Rattle.check_list.specs.View.{View, around, line_found, verdict_found, pair_found, pairs_found, mass_found, lost_found, wrong_found, findings_of}
use Rattle.domain.specs.declared.Refusal.{Refusal}
use Rattle.domain.specs.declared.Refusal.TheVariants.{Room}
use Rattle.domain.specs.Refusal.{refused_or, with_room}
use Rattle.check_packing.specs.Findings.{view_of, findings}
use Rattle.check_packing.specs.Check.{count_of, file_refusal, file_count, file_checked}
use Rattle.file_read.specs.Reading.{sheet_of, refusal_of}
use Rattle.file_write.specs.Writing.{file_length, written_of}
use Rattle.answer_word.specs.Answer.{unit, Fits, fits_with, fits_or, fits_refused}

only_few : (t : Bool) (ws : List ℕ) (b : ℕ) → length ws ≤ b → length (only_if t ws) ≤ b
only_few true ws b h = h
only_few false ws b h = omega arith

all_few : (g : ℕ → List ℕ) (b n : ℕ) → ((i : ℕ) → length (g i) ≤ b) → length (all_below g n) ≤ n * b
unfolding all_below
all_few g b zero h = omega arith
all_few g b (suc n) h =
    let r = all_few g b n h in
    let k = h n in
    let q : suc n * b ≡ n * b + b = suc-mul n b in
    simp length-append (omega arith)

-- one finding
five : (t : Bool) (a b c d e : ℕ) → length (only_if t (a ∷ b ∷ c ∷ d ∷ e ∷ [])) ≤ 5
five t a b c d e = only_few t (a ∷ b ∷ c ∷ d ∷ e ∷ []) 5 (le_refl 5)

name_few : (i : ℕ) (l : Line) (known : Bool) (k : Kind) → length (name_words i l known k) ≤ 10
unfolding name_words
name_few i l known k =
    let a = five (not known) 1 i l.id 0 0 in
    let b = five (known && not (in_range l k)) 2 i l.id l.instance k.quantity in
    simp length-append (omega arith)

repeat_few : (i : ℕ) (l : Line) (t : Bool) → length (repeat_words i l t) ≤ 5
unfolding repeat_words
repeat_few i l t = five t 3 i l.id l.instance 0

place_few : (c : Container) (i : ℕ) (l : Line) (known : Bool) (k : Kind) (e : Extent) → length (place_words c i l known k e) ≤ 15
unfolding place_words
place_few c i l known k e =
    let p = five (known && leb (length (share_of k.rule)) l.orientation) 4 i l.id l.orientation 0 in
    let q = five (known && ltb 0 l.bin) 5 i l.bin 0 0 in
    let r = five (known && not (box_inside c (tolerance_of c.size) e)) 6 i l.id 0 0 in
    simp length-append (omega arith)

verdict_few : (i j : ℕ) (d : Float) (v : Verdict) → length (verdict_words i j d v) ≤ 5
unfolding verdict_words
verdict_few i j d Apart = omega arith
verdict_few i j d Overlap = le_refl 5
verdict_few i j d (TooClose e) = le_refl 5

module _ (v : View) where
  line_few : (i : ℕ) → length (line_found v i) ≤ 30
  unfolding line_found
  line_few i =
      let a = name_few i (v.line i) (v.known i) (v.kind i) in
      let b = repeat_few i (v.line i) (v.repeated i) in
      let c = place_few (around v i) i (v.line i) (v.known i) (v.kind i) (v.box i) in
      simp length-append (omega arith)

  pair_few : (i j : ℕ) → length (pair_found v i j) ≤ 5
  unfolding pair_found
  pair_few i j =
      let w = verdict_words i j (asked_of (around v i)) (verdict_found v i j) in
      only_few (ltb i j) (only_if (v.known i && v.known j) w) 5
      (only_few (v.known i && v.known j) w 5 (verdict_few i j (asked_of (around v i)) (verdict_found v i j)))

  pairs_few : v.many.lines ≤ most_lines → (i : ℕ) → length (pairs_found v i) ≤ 5 * most_lines
  unfolding pairs_found
  pairs_few l i = let h = all_few (pair_found v i) 5 v.many.lines (pair_few i) in omega arith

  mass_few : length (mass_found v) ≤ 5
  unfolding mass_found mass_words
  mass_few =
      let limit = (v.container 0).limit in
      five (lt none limit && lt (limit ⊕ tolerance_of (v.container 0).size) (v.mass 0)) 9 (to_bits binary64 (v.mass 0)) (to_bits binary64 limit) 0 0

  lost_few : (k : ℕ) → length (lost_found v k) ≤ 5
  unfolding lost_found lost_words
  lost_few k = five (v.short k && not (any_below (is_at v.unplaced (v.id k)) v.many.unplaced)) 10 (v.id k) 0 0 0

  wrong_few : (i : ℕ) → length (wrong_found v i) ≤ 5
  unfolding wrong_found wrong_words
  wrong_few i =
      let id = get_or v.unplaced i 0 in
      five (not (v.left_known i) || (not (v.left_short i) || any_below (is_at v.unplaced id) i)) 11 id 0 0 0

  findings_few : Few v.many → length (findings_of v) ≤ 5 * (6 * most_lines + most_lines * most_lines + most_kinds + most_unplaced + 1)
  unfolding findings_of
  findings_few f =
      let a = all_few (line_found v) 30 v.many.lines line_few in
      let b = all_few (pairs_found v) (5 * most_lines) v.many.lines (pairs_few f.lines) in
      let c = mass_few in
      let d = all_few (lost_found v) 5 v.many.kinds lost_few in
      let e = all_few (wrong_found v) 5 v.many.unplaced wrong_few in
      let k = f.kinds in
      let l = f.lines in
      let u = f.unplaced in
      simp length-append (omega arith)

count_few : (s : Sheet) → count_of s < unit
unfolding count_of findings
count_few s = go (eqb (sheet_refusal s) 0) refl
  where
    go : (t : Bool) → eqb (sheet_refusal s) 0 ≡ t → cond t (length (findings s) / 5) 0 < unit
    go true e = let h = findings_few (view_of s) (accepted s (eqb-true (sheet_refusal s) 0 e)).few_of in omega arith
    go false e = omega arith

-- and so of a file
pub file_few : (f cells : List ℕ) → Fits (file_checked f cells)
unfolding file_checked file_count
file_few f cells = fits_with (file_refusal f cells) (file_count f) (file_count f) few few
  where
    few : file_count f < unit
    few = go (eqb (refusal_of f) 0)
      where
        go : (t : Bool) → cond t (count_of (sheet_of f)) 0 < unit
        go true = count_few (sheet_of f)
        go false = omega arith

pub length_few : (s : Sheet) (room : ℕ) → Fits (written_of s room)
unfolding written_of
length_few s room = go (sheet_refusal s) refl
  where
    few_bytes : Few s.many → file_length s.many < unit
    few_bytes f = let k = f.kinds in let l = f.lines in let u = f.unplaced in omega arith

    room_fits : (b : Bool) → file_length s.many < unit → Fits (cond {A = Result ℕ Refusal} b (Ok (file_length s.many)) (Err (Room (file_length s.many))))
    room_fits true h = h
    room_fits false h = h

    go : (n : ℕ) → sheet_refusal s ≡ n → Fits (refused_or n (with_room room (file_length s.many) (file_length s.many)))
    go zero e = fits_or 0 _ (room_fits (leb (file_length s.many) room) (few_bytes (accepted s e).few_of))
    go (suc n) e = fits_refused n _
