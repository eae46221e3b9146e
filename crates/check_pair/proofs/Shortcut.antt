-- Where `far_enough` holds, the distance is not below what is asked: a root is never below zero, and it is never below one gap alone.
use mathlib.Core.Path.{◌≡◌, refl, sym, ap, ◌∙◌, subst}
use mathlib.Core.Bool.{Bool, true, false, not, ◌&&◌, ◌||◌, cond, true≢false}
use mathlib.Core.List.{List}
use Prim.Native.Nat.{ℕ, ◌*◌, ◌^◌, ◌<◌}
use lib.Dec.{T, leb, ltb, leb→le, ltb→lt, lt→ltb}
use native.Mathlib.Nat.{mul-pos}
use native.Mathlib.Omega.{arith}
use mathlib.Core.Logic.{◌⊎◌, inl, inr}
use lib.Ieee.{Float, nan, inf, fin, binary64, up, down, lt, le, mul, fits, to_bits, of_bits}
use lib.Ieee.Bits.{is_true}
use lib.Ieee.Fits.{up_pos, add-fits, mul-fits, and_l, and_r}
use lib.Ieee.Positive.{positive, above, above_of_le, mul_mono}
use Rattle.floats.specs.Ops.{◌⊕◌, ◌⊗◌, none, larger, x, y, z}
use Rattle.floats.specs.Order.{signed, signed_number, round_signed, above_none, none_le, le_inf, le_chain, le_number_l, lt_not_le}
use Rattle.floats.specs.Sums.{add_commutes, add_signed, add_grows}
use Rattle.check_root.specs.Sqrt.{sqrt_of}
use Rattle.check_root.proofs.Order.{sqrt_signed, sqrt_mono, root_of_positive}
use Rattle.check_root.proofs.OfSquare.{sqrt_square, pattern_positive}
use Rattle.check_pair.specs.Pair.{squared, distance_of}
use Rattle.check_pair.specs.Shortcut.{plain, far_enough}

-- ---- squares of gaps are not negative

square_signed : (v : Float) → signed false v → signed false (v ⊗ v)
unfolding mul
square_signed nan p = absurd p
square_signed (inf true) p = absurd (true≢false p)
square_signed (inf false) p = refl
square_signed (fin true m e) p = absurd (true≢false p)
square_signed (fin false m e) p = round_signed binary64 false (m * up e * (m * up e)) (down e * down e)

none_signed : signed false none
unfolding of_bits
none_signed = refl

squared_signed : (g : Float) → signed false (squared g)
squared_signed g = square_signed (larger none g) (go (lt none g) (above_none g))
  where
    go : (b : Bool) → (T b → signed false g) → signed false (cond b g none)
    go true h = h tt
    go false h = none_signed

-- ---- a gap of what is asked, alone

positive_signed : (v : Float) → T (positive v) → signed false v
positive_signed nan p = p
positive_signed (inf s) p = absurd p
positive_signed (fin true m e) p = absurd p
positive_signed (fin false m e) p = refl

above_lt : (v : Float) → T (above v) → T (lt none v)
unfolding lt of_bits
above_lt nan h = h
above_lt (inf true) h = h
above_lt (inf false) h = tt
above_lt (fin true m e) h = h
above_lt (fin false m e) h = lt→ltb (0 * 1 * down e) (m * up e * 1) (more (m * up e) (mul-pos (ltb→lt 0 m h) (up_pos e)) (down e))
  where
    more : (k : ℕ) → 0 < k → (d : ℕ) → 0 * 1 * d < k * 1
    more k h d = omega arith

-- the square of a gap is at least that of a number above zero which is at most the gap
square_le : (a g : Float) → T (positive a) → T (le a g) → T (le (a ⊗ a) (squared g))
square_le a g p h =
    let k : T (above g) = above_of_le a g p h in
    let e : larger none g ≡ g = ap (λ (b : Bool). cond b g none) (is_true (lt none g) (above_lt g k)) in
    subst (λ (v : Float). T (le (a ⊗ a) (v ⊗ v))) (sym e) (go g h k)
  where
    go : (g : Float) → T (le a g) → T (above g) → T (le (a ⊗ a) (g ⊗ g))
    go nan h k = absurd k
    go (inf true) h k = absurd k
    go (inf false) h k = unfold mul in le_inf (a ⊗ a) (square_signed a (positive_signed a p))
    go (fin true m e) h k = absurd k
    go (fin false m e) h k = mul_mono binary64 a (fin false m e) a (fin false m e) p k p k h h

-- a root is at least what is asked, where it is that of something which is at least the square of what is asked
root_le : (asked s : Float) → T (fits binary64 asked) → T (plain asked) → (T (positive asked) → T (le (asked ⊗ asked) s)) → T (le asked (sqrt_of binary64 s))
root_le asked s F p h =
    let b = to_bits binary64 asked in
    let lo = leb→le (512 * 2 ^ 52) b (and_l (leb (512 * 2 ^ 52) b) (ltb b (1535 * 2 ^ 52)) p) in
    let hi = ltb→lt b (1535 * 2 ^ 52) (and_r (leb (512 * 2 ^ 52) b) (ltb b (1535 * 2 ^ 52)) p) in
    let e : sqrt_of binary64 (asked ⊗ asked) ≡ asked = sqrt_square asked F lo hi in
    let P = pattern_positive asked F lo hi in
    let k = root_of_positive binary64 (asked ⊗ asked) (subst (λ (v : Float). T (positive v)) (sym e) P) in
    subst (λ (v : Float). T (le v (sqrt_of binary64 s))) e (sqrt_mono binary64 (asked ⊗ asked) s k (h P))

not_below : (d v : Float) → signed false d → T (le v d) → lt d v ≡ false
not_below d v s h = lt_not_le d v (signed_number false d s) (le_number_l v d h) ∙ ap not (is_true (le v d) h)

or_split : (a b : Bool) → T (a || b) → T a ⊎ T b
or_split true b t = inl tt
or_split false b t = inr t

squared_fits : (g : Float) → T (fits binary64 (squared g))
squared_fits g = mul-fits binary64 (larger none g) (larger none g)

-- three gaps: none of their squares is above the sum
module _ (u v w : Float) where
  abbrev two : Float
  two = squared u ⊕ squared v

  abbrev all : Float
  all = two ⊕ squared w

  two_signed : signed false two
  two_signed = add_signed binary64 (squared u) (squared v) (squared_signed u) (squared_signed v)

  all_signed : signed false all
  all_signed = add_signed binary64 two (squared w) two_signed (squared_signed w)

  two_le : T (le two all)
  two_le = add_grows binary64 two (squared w) (add-fits binary64 (squared u) (squared v)) two_signed (squared_signed w)

  first_le : T (le (squared u) all)
  first_le = le_chain (squared u) two all (add_grows binary64 (squared u) (squared v) (squared_fits u) (squared_signed u) (squared_signed v)) two_le

  second_le : T (le (squared v) all)
  second_le =
      le_chain (squared v) two all
      (subst (λ (s : Float). T (le (squared v) s)) (add_commutes binary64 (squared v) (squared u))
      (add_grows binary64 (squared v) (squared u) (squared_fits v) (squared_signed v) (squared_signed u)))
      two_le

  third_le : T (le (squared w) all)
  third_le =
      subst (λ (s : Float). T (le (squared w) s)) (add_commutes binary64 (squared w) two)
      (add_grows binary64 (squared w) two (squared_fits w) (squared_signed w) two_signed)

  -- so the sum is at least the square of what is asked, where one gap is at least that
  within : (asked : Float) → T (positive asked) → T (le asked u || (le asked v || le asked w)) → T (le (asked ⊗ asked) all)
  within asked p h =
      elim (or_split (le asked u) (le asked v || le asked w) h) [
        | inl k ↦ le_chain (asked ⊗ asked) (squared u) all (square_le asked u p k) first_le
        | inr l ↦ elim (or_split (le asked v) (le asked w) l) [
          | inl k ↦ le_chain (asked ⊗ asked) (squared v) all (square_le asked v p k) second_le
          | inr k ↦ le_chain (asked ⊗ asked) (squared w) all (square_le asked w p k) third_le
        ]
      ]

  far : (asked : Float) → T (fits binary64 asked) → T (le asked none || (plain asked && (le asked u || (le asked v || le asked w))))
      → T (le asked (sqrt_of binary64 all))
  far asked F h =
      elim (or_split (le asked none) (plain asked && (le asked u || (le asked v || le asked w))) h) [
        | inl k ↦ le_chain asked none (sqrt_of binary64 all) k (none_le (sqrt_of binary64 all) (sqrt_signed binary64 all all_signed))
        | inr k ↦ root_le asked all F (and_l (plain asked) _ k) (λ p. within asked p (and_r (plain asked) _ k))
      ]

-- ---- the law

pub far_enough_lem : (g : List Float) (asked : Float) → T (fits binary64 asked) → far_enough g asked ≡ true → lt (distance_of g) asked ≡ false
unfolding distance_of
far_enough_lem g asked F h =
    not_below (distance_of g) asked (sqrt_signed binary64 _ (all_signed (x g) (y g) (z g))) (far (x g) (y g) (z g) asked F (subst T (sym h) tt))
