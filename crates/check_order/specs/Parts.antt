-- What a test picks out of all the findings on a sheet, part by part.
use Rattle.std.specs.Prelude.{◌≡◌, refl, Bool, true, false, ◌&&◌, ◌||◌, ℕ, ◌<◌, eqb, length, Float}
use Rattle.std.proofs.Math.Path.{ap}
use Rattle.std.proofs.Common.{◌∙◌, ltb-true, eqb-true}
use Rattle.std.proofs.Math.Bool.{not}
use Rattle.std.proofs.lemmas.Bool.{false≢true}
use mathlib.Core.List.{List, [], ◌∷◌, ◌++◌}
use Rattle.std.proofs.Math.Dec.{ltb, leb}
use Rattle.std.specs.Float.Ieee.{binary64, to_bits, lt}
use Rattle.floats.specs.Ops.{◌⊕◌, none}
use Rattle.lists.specs.Below.{any_below}
use Rattle.lists.specs.Bools.{or_left, or_right}
use Rattle.measures.specs.Orders.{share_of}
use Rattle.check_pair.specs.Tolerance.{tolerance_of}
use Rattle.measures.specs.declared.Kind.{Kind}
use Rattle.measures.specs.declared.Container.{Container}
use Rattle.sheet.specs.declared.Line.{Line}
use Rattle.sheet.specs.declared.Sheet.{Sheet}
use Rattle.sheet.specs.Sheets.{kind_at, line_at, unplaced_at}
use Rattle.check_pair.specs.declared.Verdict.{Verdict}
use Rattle.check_pair.specs.declared.Verdict.TheVariants.{Apart, Overlap, TooClose}
use Rattle.check_packing.specs.Lines.{kind_of, is_known, known, kind_for, in_range, repeats, short, box_of, tolerance, mass}
use Rattle.check_order.specs.Demand.{Finding, finding, words_of, pick, among, Each}
use Rattle.check_order.specs.Picked.{each_if, each_append, each_below, pick_append, pick_none}
use Rattle.lists.specs.Below.{all_below}
use Rattle.check_words.specs.Words.{only_if}
use Rattle.check_list.specs.Finding.{box_inside, lost_words, mass_words, name_words, place_words, repeat_words, verdict_words, wrong_words}
use Rattle.check_list.specs.View.{findings_of, line_found, lost_found, mass_found, pair_found, pairs_found, wrong_found}
use Rattle.check_packing.specs.Findings.{findings, line_findings, mass_finding, missing, pair_finding, pairs_from, wrongly_listed}
use Rattle.check_order.specs.ByLine.{pair_words, repeat_finding, verdict_on}
use Rattle.lists.specs.Below.{is_at}
use Rattle.check_list.specs.View.{verdict_found}

-- of two lists with no number in common, what is among the one is not among the other
abbrev pub meet : List ℕ → List ℕ → Bool
meet [] ms = false
meet (n ∷ ns) ms = among n ms || meet ns ms

pub apart : (ns ms : List ℕ) (c : ℕ) → meet ns ms ≡ false → among c ns ≡ true → among c ms ≡ false
apart [] ms c h k = absurd (false≢true k)
apart (n ∷ ns) ms c h k = go (eqb c n) (eqb-true c n) k (apart ns ms c (or_right (among n ms) (meet ns ms) h))
  where
    go : (b : Bool) → (b ≡ true → c ≡ n) → (b || among c ns) ≡ true → (among c ns ≡ true → among c ms ≡ false) → among c ms ≡ false
    go true e k rest = ap (λ (v : ℕ). among v ms) (e refl) ∙ or_left (among n ms) (meet ns ms) h
    go false e k rest = rest k

-- ---- what each part consists of

module _ (q : Finding → Type 0) where
  each_join : (b : Bool) (f : Finding) (ws : List ℕ) → q f → Each q ws → Each q (only_if b (words_of f) ++ ws)
  each_join b f ws h k = each_append q (only_if b (words_of f)) ws (each_if q b f h) k

  pub each_name : (i : ℕ) (l : Line) (b : Bool) (k : Kind) → ((id : ℕ) → q (finding 1 i id 0 0)) → ((id n m : ℕ) → q (finding 2 i id n m))
      → Each q (name_words i l b k)
  unfolding name_words
  each_name i l b k h₁ h₂ =
      each_join (not b) (finding 1 i l.id 0 0) (only_if (b && not (in_range l k)) (2 ∷ i ∷ l.id ∷ l.instance ∷ k.quantity ∷ [])) (h₁ l.id)
      (each_if q (b && not (in_range l k)) (finding 2 i l.id l.instance k.quantity) (h₂ l.id l.instance k.quantity))

  pub each_repeat : (s : Sheet) (i : ℕ) → q (finding 3 i (line_at s i).id (line_at s i).instance 0) → Each q (repeat_finding s i)
  unfolding repeat_words
  each_repeat s i h = each_if q (repeats s i) (finding 3 i (line_at s i).id (line_at s i).instance 0) h

  pub each_place : (c : Container) (i : ℕ) (l : Line) (b : Bool) (k : Kind)
      → ((id o : ℕ) → q (finding 4 i id o 0)) → ((n : ℕ) → q (finding 5 i n 0 0)) → ((id : ℕ) → q (finding 6 i id 0 0)) → Each q
      (place_words c i l b k (box_of l k))
  unfolding place_words
  each_place c i l b k h₄ h₅ h₆ =
      let outside = b && not (box_inside c (tolerance_of c.size) (box_of l k)) in
      let last = only_if outside (6 ∷ i ∷ l.id ∷ 0 ∷ 0 ∷ []) in
      each_join (b && leb (length (share_of k.rule)) l.orientation) (finding 4 i l.id l.orientation 0)
      (only_if (b && ltb 0 l.bin) (5 ∷ i ∷ l.bin ∷ 0 ∷ 0 ∷ []) ++ last)
      (h₄ l.id l.orientation)
      (each_join (b && ltb 0 l.bin) (finding 5 i l.bin 0 0) last (h₅ l.bin) (each_if q outside (finding 6 i l.id 0 0) (h₆ l.id)))

  -- line by line, where all that matters is the number and the line
  pub each_line : (s : Sheet) (i : ℕ) → ((c a b d : ℕ) → among c (1 ∷ 2 ∷ 3 ∷ 4 ∷ 5 ∷ 6 ∷ []) ≡ true → q (finding c i a b d)) → Each q (line_findings s i)
  unfolding line_found
  each_line s i h =
      let l = line_at s i in
      let place = place_words s.container i l (known s l) (kind_for s l) (box_of l (kind_for s l)) in
      each_append q (name_words i l (known s l) (kind_for s l)) (repeat_finding s i ++ place)
      (each_name i l (known s l) (kind_for s l) (λ a. h 1 a 0 0 refl) (λ a b d. h 2 a b d refl))
      (each_append q (repeat_finding s i) place (each_repeat s i (h 3 l.id l.instance 0 refl))
      (each_place s.container i l (known s l) (kind_for s l) (λ a b. h 4 a b 0 refl) (λ a. h 5 a 0 0 refl) (λ a. h 6 a 0 0 refl)))

  each_verdict : (i j : ℕ) (spacing : Float) (v : Verdict) → q (finding 7 i j 0 0) → ((d e : ℕ) → q (finding 8 i j d e)) → Each q (verdict_words i j spacing v)
  unfolding verdict_words
  each_verdict i j spacing Apart h₇ h₈ = tt
  each_verdict i j spacing Overlap h₇ h₈ = (h₇, tt)
  each_verdict i j spacing (TooClose d) h₇ h₈ = (h₈ (to_bits binary64 d) (to_bits binary64 spacing), tt)

  each_where : (b : Bool) (ws : List ℕ) → (b ≡ true → Each q ws) → Each q (only_if b ws)
  each_where true ws h = h refl
  each_where false ws h = tt

  pub each_pair : (s : Sheet) (i j : ℕ) → (i < j → (c d e : ℕ) → among c (7 ∷ 8 ∷ []) ≡ true → q (finding c i j d e)) → Each q (pair_finding s i j)
  unfolding pair_found pair_words verdict_found verdict_on
  each_pair s i j h =
      let ws = verdict_words i j s.container.spacing (verdict_on s (line_at s i) (line_at s j)) in
      let b = known s (line_at s i) && known s (line_at s j) in
      each_where (ltb i j) (only_if b ws)
      (λ e. each_where b ws
      (λ _. each_verdict i j s.container.spacing (verdict_on s (line_at s i) (line_at s j)) (h (ltb-true i j e) 7 0 0 refl)
      (λ d f. h (ltb-true i j e) 8 d f refl)))

  pub each_from : (s : Sheet) (i : ℕ) → ((j : ℕ) → j < s.many.lines → i < j → (c d e : ℕ) → among c (7 ∷ 8 ∷ []) ≡ true → q (finding c i j d e))
      → Each q (pairs_from s i)
  unfolding pairs_found
  each_from s i h = each_below q (pair_finding s i) s.many.lines (λ j l. each_pair s i j (h j l))

  pub each_mass : (s : Sheet) → ((m l : ℕ) → q (finding 9 m l 0 0)) → Each q (mass_finding s)
  unfolding mass_found mass_words
  each_mass s h =
      let m = to_bits binary64 (mass s) in
      let l = to_bits binary64 s.container.limit in
      each_if q (lt none s.container.limit && lt (s.container.limit ⊕ tolerance s) (mass s)) (finding 9 m l 0 0) (h m l)

  pub each_missing : (s : Sheet) (k : ℕ) → ((id : ℕ) → q (finding 10 id 0 0 0)) → Each q (missing s k)
  unfolding lost_found lost_words
  each_missing s k h =
      let id = (kind_at s k).id in
      each_if q (short s k && not (any_below (is_at s.unplaced id) s.many.unplaced)) (finding 10 id 0 0 0) (h id)

  pub each_listed : (s : Sheet) (i : ℕ) → ((id : ℕ) → q (finding 11 id 0 0 0)) → Each q (wrongly_listed s i)
  unfolding wrong_found wrong_words
  each_listed s i h =
      let id = unplaced_at s i in
      each_if q (not (is_known s id) || (not (short s (kind_of s id)) || any_below (is_at s.unplaced id) i)) (finding 11 id 0 0 0) (h id)

-- ---- what is picked out of all

-- whole findings, whatever they are
abbrev pub Any : Finding → Type 0
Any f = Unit {0}

pub lines_whole : (s : Sheet) (i : ℕ) → Each Any (line_findings s i)
lines_whole s i = each_line Any s i (λ c a b d h. tt)

pub from_whole : (s : Sheet) (i : ℕ) → Each Any (pairs_from s i)
from_whole s i = each_from Any s i (λ j m l c d e h. tt)

missing_whole : (s : Sheet) (k : ℕ) → Each Any (missing s k)
missing_whole s k = each_missing Any s k (λ id. tt)

listed_whole : (s : Sheet) (i : ℕ) → Each Any (wrongly_listed s i)
listed_whole s i = each_listed Any s i (λ id. tt)

pub each_finding : (q : Finding → Type 0) (s : Sheet)
    → ((i : ℕ) → i < s.many.lines → Each q (line_findings s i))
    → ((i : ℕ) → i < s.many.lines → Each q (pairs_from s i))
    → Each q (mass_finding s)
    → ((k : ℕ) → Each q (missing s k))
    → ((i : ℕ) → Each q (wrongly_listed s i))
    → Each q (findings s)
unfolding findings findings_of
each_finding q s ha hb hc hd he =
    let n = s.many.lines in
    let d = all_below (missing s) s.many.kinds in
    let e = all_below (wrongly_listed s) s.many.unplaced in
    each_append q (all_below (line_findings s) n) (all_below (pairs_from s) n ++ (mass_finding s ++ (d ++ e))) (each_below q (line_findings s) n ha)
    (each_append q (all_below (pairs_from s) n) (mass_finding s ++ (d ++ e)) (each_below q (pairs_from s) n hb)
    (each_append q (mass_finding s) (d ++ e) hc
    (each_append q d e (each_below q (missing s) s.many.kinds (λ k l. hd k)) (each_below q (wrongly_listed s) s.many.unplaced (λ i l. he i)))))

pub findings_whole : (s : Sheet) → Each Any (findings s)
findings_whole s = each_finding Any s (λ i l. lines_whole s i) (λ i l. from_whole s i) (each_mass Any s (λ m l. tt)) (missing_whole s) (listed_whole s)

module _ (p : Finding → Bool) (s : Sheet) where
  -- part by part
  pub pick_parts :
      pick p (findings s)
      ≡ pick p (all_below (line_findings s) s.many.lines)
      ++ (pick p (all_below (pairs_from s) s.many.lines)
      ++ (pick p (mass_finding s)
      ++ (pick p (all_below (missing s) s.many.kinds)
      ++ pick p (all_below (wrongly_listed s) s.many.unplaced))))
  unfolding findings findings_of
  pick_parts =
      let n = s.many.lines in
      let a = all_below (line_findings s) n in
      let b = all_below (pairs_from s) n in
      let c = mass_finding s in
      let d = all_below (missing s) s.many.kinds in
      let e = all_below (wrongly_listed s) s.many.unplaced in
      pick_append p Any a (b ++ (c ++ (d ++ e))) (each_below Any (line_findings s) n (λ i l. lines_whole s i))
      ∙ ap (λ (v : List ℕ). pick p a ++ v)
      (pick_append p Any b (c ++ (d ++ e)) (each_below Any (pairs_from s) n (λ i l. from_whole s i))
      ∙ ap (λ (v : List ℕ). pick p b ++ v)
      (pick_append p Any c (d ++ e) (each_mass Any s (λ m l. tt))
      ∙ ap (λ (v : List ℕ). pick p c ++ v) (pick_append p Any d e (each_below Any (missing s) s.many.kinds (λ k l. missing_whole s k)))))

  -- a test that no finding of a part passes picks none of them
  pub no_lines : ((c i a b d : ℕ) → among c (1 ∷ 2 ∷ 3 ∷ 4 ∷ 5 ∷ 6 ∷ []) ≡ true → p (finding c i a b d) ≡ false)
      → pick p (all_below (line_findings s) s.many.lines) ≡ []
  no_lines h = pick_none p (all_below (line_findings s) s.many.lines)
      (each_below (λ f. p f ≡ false) (line_findings s) s.many.lines (λ i l. each_line (λ f. p f ≡ false) s i (λ c a b d. h c i a b d)))

  pub no_pairs : ((c i j d e : ℕ) → among c (7 ∷ 8 ∷ []) ≡ true → p (finding c i j d e) ≡ false) → pick p (all_below (pairs_from s) s.many.lines) ≡ []
  no_pairs h = pick_none p (all_below (pairs_from s) s.many.lines)
      (each_below (λ f. p f ≡ false) (pairs_from s) s.many.lines (λ i m. each_from (λ f. p f ≡ false) s i (λ j k l c d e. h c i j d e)))

  pub no_mass : ((m l : ℕ) → p (finding 9 m l 0 0) ≡ false) → pick p (mass_finding s) ≡ []
  no_mass h = pick_none p (mass_finding s) (each_mass (λ f. p f ≡ false) s h)

  pub no_missing : ((id : ℕ) → p (finding 10 id 0 0 0) ≡ false) → pick p (all_below (missing s) s.many.kinds) ≡ []
  no_missing h = pick_none p (all_below (missing s) s.many.kinds)
      (each_below (λ f. p f ≡ false) (missing s) s.many.kinds (λ k l. each_missing (λ f. p f ≡ false) s k h))

  pub no_listed : ((id : ℕ) → p (finding 11 id 0 0 0) ≡ false) → pick p (all_below (wrongly_listed s) s.many.unplaced) ≡ []
  no_listed h = pick_none p (all_below (wrongly_listed s) s.many.unplaced)
      (each_below (λ f. p f ≡ false) (wrongly_listed s) s.many.unplaced (λ i l. each_listed (λ f. p f ≡ false) s i h))
