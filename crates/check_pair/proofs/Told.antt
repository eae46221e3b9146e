-- A sum of squares up to `close_of` has a root below what is asked, so `found_by` is whether the verdict is a finding.
use mathlib.Core.Path.{◌≡◌, refl, sym, ap, ◌∙◌, subst}
use mathlib.Core.Bool.{Bool, true, false, not, ◌&&◌, ◌||◌, cond}
use mathlib.Core.List.{List}
use Prim.Native.Nat.{ℕ, zero, suc, ◌*◌, ◌<◌}
use native.Mathlib.Omega.{arith}
use lib.Dec.{T, ltb→lt, lt→ltb}
use lib.Ieee.{Float, nan, inf, fin, binary64, up, down, lt, le, of_bits}
use lib.Ieee.Bits.{is_true}
use lib.Ieee.Fits.{sub-fits}
use lib.Ieee.Positive.{positive}
use Rattle.floats.specs.Ops.{◌⊖◌, ◌⊗◌, none}
use Rattle.floats.specs.Order.{lt_not_le, le_chain, le_number_l}
use Rattle.floats.specs.Weak.{true_false, lt_number_l, lt_number_r}
use Rattle.lists.specs.Bools.{and_left, and_right}
use Rattle.check_root.specs.Sqrt.{sqrt_of}
use Rattle.check_root.proofs.Order.{sqrt_mono}
use Rattle.check_pair.specs.declared.Verdict.{Verdict}
use Rattle.check_pair.specs.Pair.{sum_of, distance_of, overlaps, verdict_at}
use Rattle.check_pair.specs.Shortcut.{far_enough}
use Rattle.check_pair.proofs.Shortcut.{far_enough_lem}
use Rattle.check_pair.specs.Close.{is_found, nearly, close_of, found_by, Fair}

-- ---- a root is below what is asked where that of something no smaller is

below : (d e least : Float) → T (le d e) → lt e least ≡ true → lt d least ≡ true
below d e least h k = go (le least d) refl
  where
    go : (b : Bool) → le least d ≡ b → lt d least ≡ true
    go true q =
        true_false (sym k
        ∙ (lt_not_le e least (lt_number_l e least k) (lt_number_r e least k)
        ∙ ap not (is_true (le least e) (le_chain least d e (subst T (sym q) tt) h))))
    go false q = lt_not_le d least (le_number_l d e h) (lt_number_r e least k) ∙ ap not q

-- a sum above 0 that is at most a number whose root is below something is positive: it is finite, as that number is
above_positive : (s c least : Float) → T (lt none s) → T (le s c) → lt (sqrt_of binary64 c) least ≡ true → T (positive s)
unfolding lt le of_bits sqrt_of
above_positive nan c least p h k = p
above_positive (inf true) c least p h k = p
above_positive (inf false) nan least p h k = absurd h
above_positive (inf false) (inf true) least p h k = absurd h
above_positive (inf false) (inf false) nan p h k = true_false (sym k)
above_positive (inf false) (inf false) (inf true) p h k = true_false (sym k)
above_positive (inf false) (inf false) (inf false) p h k = true_false (sym k)
above_positive (inf false) (inf false) (fin s m e) p h k = true_false (sym k)
above_positive (inf false) (fin s m e) least p h k = absurd h
above_positive (fin true m e) c least p h k = absurd p
above_positive (fin false zero e) c least p h k = absurd (none_above (up e) (down e) (ltb→lt _ _ p))
  where
    none_above : (u d : ℕ) → 0 * 1 * d < 0 * u * 1 → ⊥
    none_above u d l = omega arith
above_positive (fin false (suc m) e) c least p h k = lt→ltb 0 (suc m) (omega arith)

close_below : (s c least : Float) → T (lt none s) → T (le s c) → lt (sqrt_of binary64 c) least ≡ true → lt (sqrt_of binary64 s) least ≡ true
close_below s c least p h k = below (sqrt_of binary64 s) (sqrt_of binary64 c) least (sqrt_mono binary64 s c (above_positive s c least p h k) h) k

-- ---- so a sum up to `close_of` is too close

none_least : (s : Float) → T (lt none s) → T (le s none) → ⊥
unfolding le of_bits
none_least s p h =
    true_false (sym (is_true (lt none s) p)
    ∙ (lt_not_le none s (le_number_l none none tt) (le_number_l s none h) ∙ ap not (is_true (le s none) h)))

close_right : (asked t s : Float) → T (lt none s) → T (le s (close_of asked t)) → lt (sqrt_of binary64 s) (asked ⊖ t) ≡ true
unfolding close_of
close_right asked t s p h = go (lt (sqrt_of binary64 c) (asked ⊖ t)) refl h
  where
    c : Float
    c = nearly ⊗ ((asked ⊖ t) ⊗ (asked ⊖ t))

    go : (b : Bool) → lt (sqrt_of binary64 c) (asked ⊖ t) ≡ b → T (le s (cond b c none)) → lt (sqrt_of binary64 s) (asked ⊖ t) ≡ true
    go true e h = close_below s c (asked ⊖ t) p h e
    go false e h = absurd (none_least s p h)

-- ---- the law

fair_close : (asked t : Float) → Fair (close_of asked t) asked t
fair_close asked t = record { fair = close_right asked t }

fair_none : (asked t : Float) → Fair none asked t
fair_none asked t = record { fair = λ s p h. absurd (none_least s p h) }

pub fair_past : (past : Bool) (asked t : Float) → Fair (cond past (close_of asked t) none) asked t
fair_past true asked t = fair_close asked t
fair_past false asked t = fair_none asked t

pub found_is : (close : Float) (g : List Float) (asked t : Float) → Fair close asked t → found_by close g asked t ≡ is_found (verdict_at g asked t)
unfolding found_by verdict_at distance_of
found_is close g asked t f = go (overlaps g t) (lt none (sum_of g) && le (sum_of g) close) refl (lt (sqrt_of binary64 (sum_of g)) (asked ⊖ t)) refl
  where
    go : (o n : Bool) → (lt none (sum_of g) && le (sum_of g) close) ≡ n → (l : Bool) → lt (sqrt_of binary64 (sum_of g)) (asked ⊖ t) ≡ l
        → (o || (n || l)) ≡ is_found (cond o Verdict.Overlap (cond l (Verdict.TooClose (sqrt_of binary64 (sum_of g))) Verdict.Apart))
    go true n q l r = refl
    go false true q true r = refl
    go false true q false r =
        true_false (sym (f.fair (sum_of g) (subst T {x = true} (sym (and_left (lt none (sum_of g)) (le (sum_of g) close) q)) tt)
        (subst T {x = true} (sym (and_right (lt none (sum_of g)) (le (sum_of g) close) q)) tt)) ∙ r)
    go false false q true r = refl
    go false false q false r = refl

-- ---- `found_by` in each of its cases

module _ (close : Float) (g : List Float) (asked t : Float) where
  pub found_overlap : overlaps g t ≡ true → true ≡ found_by close g asked t
  unfolding found_by
  found_overlap o = rw o

  pub found_close : (s : Float) → s ≡ sum_of g → overlaps g t ≡ false → (lt none s && le s close) ≡ true → true ≡ found_by close g asked t
  unfolding found_by
  found_close s e o n = let k : (lt none (sum_of g) && le (sum_of g) close) ≡ true = rw e at n in rw (o, k)

  pub found_far : (s : Float) → s ≡ sum_of g → overlaps g t ≡ false → (lt none s && le s close) ≡ false → far_enough g (asked ⊖ t) ≡ true
      → false ≡ found_by close g asked t
  unfolding found_by
  found_far s e o n h =
      let k : (lt none (sum_of g) && le (sum_of g) close) ≡ false = rw e at n in
      rw (o, k, far_enough_lem g (asked ⊖ t) (sub-fits binary64 asked t) h)

  pub found_root : (s d : Float) → s ≡ sum_of g → d ≡ sqrt_of binary64 s → overlaps g t ≡ false → (lt none s && le s close) ≡ false
      → lt d (asked ⊖ t) ≡ found_by close g asked t
  unfolding found_by distance_of
  found_root s d e r o n =
      let k : (lt none (sum_of g) && le (sum_of g) close) ≡ false = rw e at n in
      rw (o, k, r, e)
