-- Which two line numbers are those of a pair; and that what a pair of lines gets is the same, but for the line numbers, whichever of the two stands first.
use Rattle.std.specs.Prelude.{◌≡◌, Bool, false, ◌&&◌, ◌||◌, ℕ, ◌<◌, ◌≤◌, Float}
use Rattle.std.proofs.Math.Path.{refl, ap}
use Rattle.std.proofs.Common.{arith, eqb-true}
use Rattle.std.proofs.Math.Bool.{true, and_comm}
use Rattle.std.proofs.Math.Dec.{eqb}
use Rattle.lists.specs.Bools.{and_left, and_right}
use Rattle.sheet.specs.declared.Line.{Line}
use Rattle.sheet.specs.declared.Sheet.{Sheet}
use Rattle.sheet.specs.Sheets.{line_fault}
use Rattle.sheet.specs.Accepted.{Accepted}
use Rattle.check_pair.specs.declared.Verdict.{Verdict}
use Rattle.check_pair.specs.declared.Verdict.TheVariants.{Apart, Overlap, TooClose}
use Rattle.check_pair.specs.Symmetry.{verdict_turned}
use Rattle.check_packing.specs.Lines.{known, kind_for, box_of, tolerance}
use Rattle.check_order.specs.Demand.{change, lines_aside}
use Rattle.check_order.specs.Bools.{only_same}
use Rattle.check_order.specs.Boxes.{box_solid}
use Rattle.check_words.specs.Words.{only_if}
use Rattle.check_list.specs.Finding.{verdict_words}
use Rattle.check_list.specs.View.{pair_found, verdict_found}
use Rattle.check_order.specs.ByLine.{pair_words, verdict_on}

-- ---- which of the pairs k < m is the pair of i and j

abbrev pub these : ℕ → ℕ → ℕ → ℕ → Bool
these i j k m = eqb k i && eqb m j || eqb k j && eqb m i

pub not_these : (i j k m : ℕ) → i ≤ j → k < m → (k ≡ i → m ≡ j → ⊥) → these i j k m ≡ false
not_these i j k m l h g = go (eqb k i) (eqb m j) (eqb k j) (eqb m i) (eqb-true k i) (eqb-true m j) (eqb-true k j) (eqb-true m i)
  where
    crossed : k ≡ j → m ≡ i → ⊥
    crossed a b = omega arith

    second : (c d : Bool) → (c ≡ true → k ≡ j) → (d ≡ true → m ≡ i) → (c && d) ≡ false
    second true true p q = absurd (crossed (p refl) (q refl))
    second true false p q = refl
    second false d p q = refl

    go : (a b c d : Bool) → (a ≡ true → k ≡ i) → (b ≡ true → m ≡ j) → (c ≡ true → k ≡ j) → (d ≡ true → m ≡ i) → (a && b || c && d) ≡ false
    go true true c d p q r t = absurd (g (p refl) (q refl))
    go true false c d p q r t = second c d r t
    go false b c d p q r t = second c d r t

-- ---- line numbers aside

verdict_aside : (i j : ℕ) (spacing : Float) (v : Verdict) → change lines_aside (verdict_words i j spacing v) ≡ verdict_words 0 0 spacing v
unfolding verdict_words change
verdict_aside i j spacing Apart = refl
verdict_aside i j spacing Overlap = refl
verdict_aside i j spacing (TooClose d) = refl

pub pair_aside : (s : Sheet) (i : ℕ) (l : Line) (j : ℕ) (m : Line) → change lines_aside (pair_words s i l j m) ≡ pair_words s 0 l 0 m
unfolding pair_words pair_found verdict_found verdict_on
pair_aside s i l j m = go (known s l && known s m)
  where
    go : (b : Bool) → change lines_aside (only_if b (verdict_words i j s.container.spacing (verdict_on s l m))) ≡ only_if b
        (verdict_words 0 0 s.container.spacing (verdict_on s l m))
    go true = verdict_aside i j s.container.spacing (verdict_on s l m)
    go false = unfold change in refl

-- ---- whichever of the two comes first

pub pair_turned : (s : Sheet) → Accepted s → (l m : Line) → line_fault l ≡ 0 → line_fault m ≡ 0 → pair_words s 0 l 0 m ≡ pair_words s 0 m 0 l
unfolding pair_words verdict_on verdict_found pair_found
pair_turned s a l m h k =
    only_same (known s l && known s m) (known s m && known s l) _ _ (and_comm (known s l) (known s m))
    (λ e. ap (λ (v : Verdict). verdict_words 0 0 s.container.spacing v)
    (verdict_turned (box_of l (kind_for s l)) (box_of m (kind_for s m)) s.container.spacing (tolerance s)
    (box_solid s a l h (and_left (known s l) (known s m) e)) (box_solid s a m k (and_right (known s l) (known s m) e))))
