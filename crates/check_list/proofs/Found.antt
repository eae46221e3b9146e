-- What pairs get by the columns; which get nothing: those of one line with itself or with a line before it, and those that are far apart.
use mathlib.Core.Path.{◌≡◌, refl, ap, ◌∙◌}
use mathlib.Core.Bool.{Bool, true, ◌&&◌}
use mathlib.Core.List.{List, [], ◌++◌, append-nil}
use mathlib.Core.Logic.{⊎_elim}
use Prim.Native.Nat.{ℕ, zero, suc, ◌<◌, ◌≤◌}
use native.Mathlib.Nat.{eq-or-lt_of_le}
use native.Mathlib.Omega.{arith}
use lib.Dec.{ltb}
use lib.ListN.{get_or}
use borrow.Author.Tests.{lt-ltb, le-ltb}
use Rattle.lists.specs.Below.{all_below, all_same}
use Rattle.check_pair.specs.declared.Extent.{Extent}
use Rattle.check_pair.specs.Pair.{gaps, verdict_of}
use Rattle.check_pair.specs.Shortcut.{some_gap, limit_of}
use Rattle.check_pair.specs.Tolerance.{tolerance_of}
use Rattle.check_pair.proofs.FarApart.{limit_far}
use Rattle.check_words.specs.Words.{only_if}
use Rattle.check_words.specs.Writes.{only_nothing}
use Rattle.check_list.specs.declared.Rule.{Rule}
use Rattle.check_list.specs.Finding.{verdict_words}
use Rattle.check_list.specs.View.{View, line_found, verdict_found, pair_found, pairs_found, lines_found}
use Rattle.check_words.specs.Boxes.{box_at}
use Rattle.check_list.specs.Held.{view_in, boxes_in}
use Rattle.check_list.specs.Alike.{pairs_same}

module _ (r : Rule) (which : List ℕ) (boxes : List Extent) (i j : ℕ) (o : i < j) where
  -- what lines i and j get by the columns
  pub pair_found_lem : r.slack ≡ tolerance_of r.case.size
      → only_if (ltb (get_or which i 0) r.kinds && ltb (get_or which j 0) r.kinds)
      (verdict_words i j r.case.spacing (verdict_of (box_at boxes i) (box_at boxes j) r.case.spacing r.slack))
      ≡ pair_found (boxes_in r which boxes) i j
  unfolding pair_found verdict_found
  pair_found_lem e = rw (e, lt-ltb i j o)

  -- nothing where one gap is at least the limit
  pub pair_far : some_gap (limit_of r.case.spacing (tolerance_of r.case.size)) (gaps (box_at boxes i) (box_at boxes j)) ≡ true
      → pair_found (boxes_in r which boxes) i j ≡ []
  unfolding pair_found verdict_found verdict_words
  pair_far f =
      rw (lt-ltb i j o) (rw (limit_far _ r.case.spacing (tolerance_of r.case.size) f)
      (only_nothing (ltb (get_or which i 0) r.kinds && ltb (get_or which j 0) r.kinds)))

-- no pair is of a line with itself or with one before it
pub pair_none : (v : View) (i j : ℕ) → j ≤ i → pair_found v i j ≡ []
unfolding pair_found
pair_none v i j h = rw (le-ltb i j h)

-- turns that give nothing may be left out
pub all_skip : (g : ℕ → List ℕ) (from to : ℕ) → from ≤ to → ((k : ℕ) → from ≤ k → k < to → g k ≡ []) → all_below g to ≡ all_below g from
unfolding all_below
all_skip g from zero l h = let e : from ≡ 0 = omega arith in rw e
all_skip g from (suc to) l h =
    ⊎_elim (λ e. rw e)
    (λ m. rw (h to (omega arith) (omega arith)) (append-nil (all_below g to) ∙ all_skip g from to (omega arith) (λ k a b. h k a (omega arith))))
    (eq-or-lt_of_le l)

-- the lines and their pairs together
pub lines_in : (f : List ℕ) (start : ℕ) (again : List Bool) (r : Rule) (which : List ℕ) (boxes : List Extent)
    → all_below (line_found (view_in f start again r which boxes)) r.lines ++ all_below (pairs_found (boxes_in r which boxes)) r.lines
    ≡ lines_found (view_in f start again r which boxes)
unfolding lines_found
lines_in f start again r which boxes =
    let v = view_in f start again r which boxes in
    ap (λ (ws : List ℕ). all_below (line_found v) r.lines ++ ws)
    (all_same (pairs_found (boxes_in r which boxes)) (pairs_found v) r.lines
    (pairs_same (boxes_in r which boxes) v (record { lines_are = refl; known_is = λ i l. refl; box_is = λ i l k. refl; case_is = λ i l. refl })))
