-- A plan whose lines stand in lent memory, written as a load file from its order's bytes: the answer, the bytes and the figures, and that they are the
-- planned sheet's. RULES: Plans, Boundary
use Rattle.std.specs.Prelude.{◌≡◌, refl, Bool, cond, ◌||◌, ℕ, ◌<◌, ◌≤◌, ltb, leb, length, set, is_ok, Result, Ok, Err}
use Rattle.std.proofs.Math.Path.{sym, ap, subst}
use Rattle.std.proofs.Common.{◌∙◌, arith}
use Rattle.std.proofs.Math.Bool.{true, false}
use mathlib.Core.List.{List}
use borrow.Author.Tests.{eqb-true, eqb-false, ne_eqb, ltb-false}
use Rattle.std.proofs.Math.Dec.{eqb}
use Rattle.std.proofs.Math.ListN.{get_or}
use Rattle.std.specs.Float.{binary64}
use Rattle.std.specs.Float.Ieee.{to_bits}
use Rattle.domain.specs.Bounds.{most_kinds, most_lines, most_unplaced}
use Rattle.domain.specs.declared.Refusal.{Refusal}
use Rattle.domain.specs.declared.Refusal.TheVariants.{Room}
use Rattle.domain.specs.Refusals.{when}
use Rattle.domain.specs.Refusal.{number_of, needed_of, refused_or, or_refuses, no_refusal, accepted_as}
use Rattle.domain.specs.Refusal.{answer_of as answer_by}
use Rattle.domain.specs.Numbers.{told_number}
use Rattle.domain.specs.Laws.{or_else_first, or_else_second, when_none}
use Rattle.lists.specs.Bools.{or_left, or_right}
use Rattle.lists.specs.Table.{table_at}
use Rattle.sheet.specs.declared.Counts.{Counts}
use Rattle.sheet.specs.declared.Line.{Line}
use Rattle.sheet.specs.declared.Sheet.{Sheet}
use Rattle.sheet.specs.Sheets.{no_line, sheet_refusal}
use Rattle.file_read.specs.Reading.{sheet_of, refusal_of}
use Rattle.file_read.specs.Refusal.{sheet_sound}
use Rattle.file_read.specs.Records.{counts_in, many_is}
use Rattle.file_read.specs.Numbered.{file_numbered}
use Rattle.file_write.specs.Writing.{line_numbers, lines_from, file_length, written_of}
use Rattle.file_write.specs.Planned.{over_counts, over_plan, plan_written, plan_after, plan_stays}
use Rattle.file_write.specs.PlanStores as Stores
use Rattle.file_write.specs.PlanStores.{Holds, holds}
use Rattle.file_laws.specs.Parts.{Bytes}
use Rattle.file_laws.specs.Planned.{Plans, plan_answer_lem, plan_bytes_lem}
use Rattle.plan_unplaced.specs.declared.Left.{Left}
use Rattle.plan_unplaced.specs.Left.{over_bound, left_of}
use Rattle.plan_unplaced.specs.InFile.{kinds_in}
use Rattle.plan_sheet.specs.declared.Told.{Told}
use Rattle.plan_sheet.specs.Plans.{Plan, plan_refusal, refused_plan}
use Rattle.plan_sheet.specs.Planned.{PlanSheet, planned_sheet, sheet_from}
use Rattle.plan_sheet.specs.Laid.{plan_in, told_of, laid_in, Lays}
use Rattle.plan_sheet.specs.LaidLaws.{laid_at, laid_length}
use Rattle.plan_sheet.specs.Refused.{has_number, test_holds, refused_in}
use Rattle.plan_sheet.specs.Room.{fitting}
use Rattle.plan_laws.specs.Accepted.{Taken, Lists, points_lists, layers_lists}
use Rattle.plan_laws.proofs.Accepted.{points_accepted, layers_accepted}
use Rattle.plan_laws.specs.Laid as Laws
use Rattle.plan_laws.specs.Laid.{laid_left}
use Rattle.plan_laws.specs.Fits.{Modest, fits_told, fits_refused_by, fits_long, long_room}
use Rattle.point_run.specs.Runs.{ep_packing_of}
use Rattle.layer_plan.specs.Fills.{layer_fill_of}
use Rattle.answer_word.specs.Answer.{unit, answer_of, word_told, fits_or}
use Rattle.answer_word.specs.Answer.{Fits as WordFits}
use Rattle.plan_file.specs.Plan.{Planner, plan_answer, plan_bytes, plan_figures, order_answer, order_bytes, order_figures, Answers}

-- ---- what is written of a plan that is told of, with the ids that its lines leave

abbrev pub laid_counts : List ℕ → Told → List Line → Counts
laid_counts f t c = record { kinds = (counts_in f).kinds; lines = t.placed; unplaced = (laid_left f t c).count }

abbrev pub laid_written : List ℕ → Told → List Line → ℕ → Result ℕ Refusal
laid_written f t c room = plan_written (length f) (laid_counts f t c) c room

abbrev pub laid_bytes : List ℕ → Told → List Line → List ℕ → List ℕ
laid_bytes f t c out = plan_after f (laid_counts f t c) c (laid_left f t c).ids out

-- the figures where the file is written
unfoldable pub laid_figures : Told → Result ℕ Refusal → List ℕ → List ℕ
laid_figures t w old = cond (is_ok w) (set (set old 0 t.considered) 1 (to_bits binary64 t.utilization)) old

-- the length told, and the lent bytes afterwards
pub record WritesLines (f : List ℕ) (t : Told) (c : List Line) (out : List ℕ) (w : Result ℕ Refusal) (bytes : List ℕ) : Type 0 where
  pub length_is : w ≡ laid_written f t c (length out)
  pub bytes_are : bytes ≡ laid_bytes f t c out

-- the answer, and the lent bytes and figures afterwards
pub record WritesLaid (f : List ℕ) (t : Told) (c : List Line) (out old : List ℕ) (r : ℕ) (bytes figures : List ℕ) : Type 0 where
  pub answer_is : r ≡ word_told (laid_written f t c (length out))
  pub bytes_are : bytes ≡ laid_bytes f t c out
  pub figures_are : figures ≡ laid_figures t (laid_written f t c (length out)) old

-- the length told is far below 2^32
pub written_fits : (n : ℕ) (m : Counts) (c : List Line) (room : ℕ) → WordFits (plan_written n m c room)
unfolding plan_written refused_or
written_fits n m c room = go (over_plan m c) refl
  where
    few : Holds m → file_length m < unit
    few h = let a = h.kinds in let b = h.lines in let u = h.left in omega arith

    room_fits : (b : Bool) → file_length m < unit → WordFits (cond {A = Result ℕ Refusal} b (Ok (file_length m)) (Err (Room (file_length m))))
    room_fits true h = h
    room_fits false h = h

    go : (b : Bool) → over_plan m c ≡ b → WordFits (plan_written n m c room)
    go true h = rw h (omega arith)
    go false h = rw h (fits_or (when (ltb n (lines_from m)) 1) _ (room_fits (leb (file_length m) room) (few (holds m (or_left (over_counts m) _ h)))))

-- a list of what is left is refused only where the plan is written by no one
left_over : (a b d u : Bool) → ((a || b) || d) ≡ true → ((a || (b || u)) || d) ≡ true
left_over true b d u h = refl
left_over false true d u h = refl
left_over false false true true h = refl
left_over false false true false h = refl
left_over false false false u h = absurd (cc)

module _ (f : List ℕ) (t : Told) (c : List Line) (out : List ℕ) where
  pub lines_refused : (r : Refusal) → Err r ≡ left_of (kinds_in f (counts_in f).kinds) (counts_in f).kinds c t.placed → WritesLines f t c out (Err r) out
  unfolding left_of laid_left plan_written
  lines_refused r e =
      let m = laid_counts f t c in
      let h = test_holds (over_bound m.kinds m.lines || ltb (length c) m.lines) 2 0 _ r e in
      let o : over_plan m c ≡ true = left_over (ltb most_kinds m.kinds) (ltb most_lines m.lines) (ltb (length c) m.lines) (ltb most_kinds m.unplaced) h in
      let e2 : Err r ≡ answer_by 2 (laid_left f t c) = rw h at e in
      let q : Err r ≡ laid_written f t c (length out) = rw o (or_refuses 2 (laid_left f t c) _ r e2) in
      record { length_is = q; bytes_are = plan_stays f m c (laid_left f t c).ids out r q }

  pub lines_written : (l : Left) (w : Result ℕ Refusal) (out' : List ℕ) → Ok l ≡ left_of (kinds_in f (counts_in f).kinds) (counts_in f).kinds c t.placed
      → Stores.Told f (record { kinds = (counts_in f).kinds; lines = t.placed; unplaced = l.count }) c l.ids out out' w → WritesLines f t c out w out'
  unfolding left_of laid_left
  lines_written l w out' e told =
      let q = accepted_as _ 0 _ l e in
      let s = rw q at told in
      record { length_is = s.answer; bytes_are = s.bytes }

  -- the count of its word fits
  pub length_fits : (w : Result ℕ Refusal) (out' : List ℕ) (n : ℕ) → WritesLines f t c out w out' → w ≡ Ok n → n < unit
  length_fits w out' n h e = subst WordFits (sym h.length_is ∙ e) (written_fits (length f) (laid_counts f t c) c (length out))

  pub needed_fits : (w : Result ℕ Refusal) (out' : List ℕ) (r : Refusal) → WritesLines f t c out w out' → w ≡ Err r → needed_of r < unit
  needed_fits w out' r h e = subst WordFits (sym h.length_is ∙ e) (written_fits (length f) (laid_counts f t c) c (length out))

  -- in one word, with the figures where it is written
  pub laid_refused : (w : Result ℕ Refusal) (out' words : List ℕ) (r : Refusal) → WritesLines f t c out w out' → w ≡ Err r
      → WritesLaid f t c out words (answer_of (number_of r) (needed_of r)) out' words
  unfolding laid_figures
  laid_refused w out' words r h e =
      let q : laid_written f t c (length out) ≡ Err r = sym h.length_is ∙ e in
      record { answer_is = rw q; bytes_are = h.bytes_are; figures_are = rw q }

  pub laid_told : (w : Result ℕ Refusal) (out' words : List ℕ) (n : ℕ) → WritesLines f t c out w out' → w ≡ Ok n
      → WritesLaid f t c out words (answer_of 0 n) out' (set (set words 0 t.considered) 1 (to_bits binary64 t.utilization))
  unfolding laid_figures
  laid_told w out' words n h e =
      let q : laid_written f t c (length out) ≡ Ok n = sym h.length_is ∙ e in
      record { answer_is = rw q; bytes_are = h.bytes_are; figures_are = rw q }

-- ---- of a plan of an accepted order it is the planned sheet

-- its sheet is accepted, and its unplaced list is what its lines leave
pub record Sound (order : Sheet) (p : Plan) : Type 0 where
  pub taken : Taken order p
  pub lists : Lists order.kinds order.many.kinds p

-- what a plan whose sheet is accepted has
record Fair (p : Plan) : Type 0 where
  not_refused : p.refused ≡ 0
  lines_few : p.placed ≤ most_lines
  ids_few : p.unplaced ≤ most_kinds

from_sheet : (order : Sheet) (p : Plan) (b : Bool) → eqb (plan_refusal p.refused p.placed p.unplaced) 0 ≡ b
    → sheet_from order p ≡ record { refused = 0; sheet = planned_sheet order p } → plan_refusal p.refused p.placed p.unplaced ≡ 0
unfolding sheet_from
from_sheet order p true e h = eqb-true _ 0 e
from_sheet order p false e h = ap (λ (s : PlanSheet). s.refused) (rw e at h)

fair : (order : Sheet) (p : Plan) → Taken order p → Fair p
unfolding plan_refusal
fair order p t =
    let h = from_sheet order p _ refl t.sheet_is in
    let over = ltb most_lines p.placed || ltb most_kinds p.unplaced in
    let q = when_none over 1 (or_else_second p.refused _ h) in
    record {
      not_refused = or_else_first p.refused _ h;
      lines_few = ltb-false most_lines p.placed (or_left (ltb most_lines p.placed) _ q);
      ids_few = ltb-false most_kinds p.unplaced (or_right (ltb most_lines p.placed) _ q);
    }

module _ (f : List ℕ) (bytes : Bytes f) (z : refusal_of f ≡ 0) (p : Plan) (sound : Sound (sheet_of f) p) (old : List Line)
    (long : p.placed ≤ length old) where
  abbrev order : Sheet
  order = sheet_of f

  abbrev sheet : Sheet
  sheet = planned_sheet order p

  abbrev lines : List Line
  lines = laid_in old p

  abbrev left : Left
  left = laid_left f (told_of p) lines

  fair_plan : Fair p
  fair_plan = fair order p sound.taken

  order_accepted : sheet_refusal order ≡ 0
  order_accepted = sheet_sound f z

  count_is : left.count ≡ p.unplaced
  count_is = Laws.count_is f z p sound.lists old long

  ids_are : left.ids ≡ p.ids
  ids_are = Laws.ids_are f z p sound.lists old long

  counts_are : laid_counts f (told_of p) lines ≡ sheet.many
  unfolding planned_sheet
  counts_are = rw (Laws.counts_are f z, count_is, many_is f)

  plans : Plans f lines left.ids sheet
  unfolding planned_sheet
  plans =
      record {
        kinds_are = sym (ap (λ (m : Counts). m.kinds) (many_is f));
        container_is = refl;
        kind_list = refl;
        line_is = λ i l. sym (ap line_numbers (laid_at old p i no_line long l));
        left_is =
            λ i l.
            table_at 0 most_unplaced (λ j. get_or p.ids j 0) most_kinds i 0 (omega arith) (let h = fair_plan.ids_few in omega arith)
            ∙ ap (λ (ids : List ℕ). get_or ids i 0) (sym ids_are);
        left_few = fair_plan.ids_few;
        long = rw (laid_length old p) long;
      }

  written_is : (room : ℕ) → laid_written f (told_of p) lines room ≡ written_of sheet room
  written_is room =
      ap (λ (m : Counts). plan_written (length f) m lines room) counts_are
      ∙ plan_answer_lem f bytes z lines left.ids sheet plans sound.taken.sheet_accepted room

  pub answer_laid : (room : ℕ) → word_told (laid_written f (told_of p) lines room) ≡ plan_answer order p room
  unfolding plan_answer
  answer_laid room = ap word_told (written_is room) ∙ rw sound.taken.sheet_is

  pub bytes_laid : (out : List ℕ) → laid_bytes f (told_of p) lines out ≡ plan_bytes order p out
  unfolding plan_bytes
  bytes_laid out =
      ap (λ (m : Counts). plan_after f m lines left.ids out) counts_are
      ∙ plan_bytes_lem f bytes z lines left.ids sheet plans sound.taken.sheet_accepted out
      ∙ rw sound.taken.sheet_is

  pub figures_laid : (room : ℕ) (words : List ℕ) → laid_figures (told_of p) (laid_written f (told_of p) lines room) words ≡ plan_figures order p room words
  unfolding plan_figures laid_figures
  figures_laid room words = rw (written_is room) (rw sound.taken.sheet_is)

-- ---- of the plan of an order in a load file it is the plan call's answer

module _ (plan_of : Planner) (f : List ℕ) (bytes : Bytes f) (consider : ℕ) (sound : refusal_of f ≡ 0 → Sound (sheet_of f) (plan_of (sheet_of f) consider))
    (old c : List Line) where
  abbrev plan : Plan
  plan = plan_in plan_of f consider

  -- the plan of an accepted order is not refused, and that of another is refused as the file is
  plan_sound : refusal_of f ≡ 0 → plan ≡ plan_of (sheet_of f) consider
  unfolding plan_in
  plan_sound z = rw z

  plan_fair : refusal_of f ≡ 0 → plan.refused ≡ 0
  plan_fair z = rw (plan_sound z) (fair (sheet_of f) (plan_of (sheet_of f) consider) (sound z).taken).not_refused

  refused_number : (b : Bool) → eqb (refusal_of f) 0 ≡ b → plan.refused ≡ refusal_of f
  unfolding refused_plan
  refused_number true e = let z = eqb-true (refusal_of f) 0 e in plan_fair z ∙ sym z
  refused_number false e = rw (refused_in plan_of f consider (eqb-false (refusal_of f) 0 e)) refl

  -- what is told of the plan is written
  pub answers : (t : Told) (out words : List ℕ) (r : ℕ) (out' words' : List ℕ) → plan.placed ≤ length old → Lays plan (Ok t) old c
      → WritesLaid f t c out words r out' words' → Answers plan_of f consider out words r out' words'
  unfolding order_answer order_bytes order_figures
  answers t out words r out' words' long l w =
      let z : refusal_of f ≡ 0 = sym (refused_number _ refl) ∙ no_refusal plan.refused plan.considered (told_of plan) t l.told_is in
      let e : t ≡ told_of plan = accepted_as plan.refused plan.considered (told_of plan) t l.told_is in
      let s = plan_sound z in
      let a = rw (e, l.lines_are, s) at w.answer_is in
      let b = rw (e, l.lines_are, s) at w.bytes_are in
      let d = rw (e, l.lines_are, s) at w.figures_are in
      record {
        answer_is = a ∙ rw z (answer_laid f bytes z (plan_of (sheet_of f) consider) (sound z) old (rw s at long) (length out));
        bytes_are = b ∙ rw z (bytes_laid f bytes z (plan_of (sheet_of f) consider) (sound z) old (rw s at long) out);
        figures_are = d ∙ rw z (figures_laid f bytes z (plan_of (sheet_of f) consider) (sound z) old (rw s at long) (length out) words);
      }

  -- and where it is refused nothing is written
  pub answers_refused : (q : Refusal) (out words : List ℕ) → Lays plan (Err q) old c
      → Answers plan_of f consider out words (answer_of (number_of q) 0) out words
  unfolding order_answer order_bytes order_figures
  answers_refused q out words l =
      let n = refused_number _ refl in
      let k = file_numbered f in
      let few : plan.refused ≤ 9 = omega arith in
      let h : number_of q ≡ refusal_of f = told_number plan.refused plan.considered _ q few l.told_is ∙ n in
      let z = has_number plan.refused plan.considered _ q l.told_is in
      let e = ne_eqb (refusal_of f) 0 (λ k. z (n ∙ k)) in
      record { answer_is = rw e (ap (λ (v : ℕ). answer_of v 0) h); bytes_are = rw e; figures_are = rw e }

-- ---- the plans of the two placers

pub points_sound : (f : List ℕ) (consider : ℕ) → refusal_of f ≡ 0 → Sound (sheet_of f) (ep_packing_of (sheet_of f) consider)
points_sound f consider z =
    let h = sheet_sound f z in
    record { taken = points_accepted (sheet_of f) consider h; lists = points_lists (sheet_of f) consider h }

pub layers_sound : (f : List ℕ) (consider : ℕ) → refusal_of f ≡ 0 → Sound (sheet_of f) (layer_fill_of (sheet_of f) consider)
layers_sound f consider z =
    let h = sheet_sound f z in
    record { taken = layers_accepted (sheet_of f) consider h; lists = layers_lists (sheet_of f) consider h }

-- ---- a placer whose plans are such, in lines of either number

module _ (plan_of : Planner) (f : List ℕ) (bytes : Bytes f) (consider : ℕ) (modest : Modest (plan_in plan_of f consider))
    (sound : refusal_of f ≡ 0 → Sound (sheet_of f) (plan_of (sheet_of f) consider)) (old c : List Line) where
  -- as many lines as there may be
  pub long_written : (t : Told) (out words : List ℕ) (r : ℕ) (out' words' : List ℕ) → most_lines ≤ length old
      → Lays (fitting old (plan_in plan_of f consider)) (Ok t) old c → WritesLaid f t c out words r out' words'
      → Answers plan_of f consider out words r out' words'
  long_written t out words r out' words' long l w =
      answers plan_of f bytes consider sound old c t out words r out' words' (long_room old modest long) (rw (fits_long old modest long) at l) w

  pub long_refused : (q : Refusal) (out words : List ℕ) → most_lines ≤ length old → Lays (fitting old (plan_in plan_of f consider)) (Err q) old c
      → Answers plan_of f consider out words (answer_of (number_of q) 0) out words
  long_refused q out words long l = answers_refused plan_of f bytes consider sound old c q out words (rw (fits_long old modest long) at l)

  -- fewer, where that is not refused by 6
  pub few_written : (t : Told) (out words : List ℕ) (r : ℕ) (out' words' : List ℕ) → Lays (fitting old (plan_in plan_of f consider)) (Ok t) old c
      → WritesLaid f t c out words r out' words' → Answers plan_of f consider out words r out' words'
  few_written t out words r out' words' l w =
      let fits = fits_told old old c (plan_in plan_of f consider) t modest l in
      answers plan_of f bytes consider sound old c t out words r out' words' fits.room (rw fits.is_plan at l) w

  pub few_refused : (q : Refusal) (out words : List ℕ) → ((n : ℕ) → q ≡ Room n → ⊥) → Lays (fitting old (plan_in plan_of f consider)) (Err q) old c
      → Answers plan_of f consider out words (answer_of (number_of q) 0) out words
  few_refused q out words n l =
      answers_refused plan_of f bytes consider sound old c q out words (fits_refused_by old old c (plan_in plan_of f consider) q n l)
