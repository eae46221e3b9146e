-- Boxes within a span that is far from a box are far from it: a rounded difference does not fall as its first term rises.
use mathlib.Core.Path.{◌≡◌, refl, sym, subst}
use mathlib.Core.Bool.{Bool, true, false, not, cond, ◌&&◌, ◌||◌}
use Prim.Native.Nat.{ℕ}
use lib.Dec.{T}
use lib.Ieee.{Float, binary64, lt, le, neg, is_nan, of_bits}
use lib.Ieee.Bits.{is_true}
use lib.Ieee.Scale.{finite}
use Rattle.floats.specs.Ops.{◌⊖◌, larger}
use Rattle.floats.specs.Order.{le_chain, lt→le, nlt→le}
use Rattle.floats.specs.Numbers.{sub_number, finite_number, finite_between}
use Rattle.floats.specs.Differences.{sub_mono, sub_anti}
use Rattle.lists.specs.Bools.{and_left, and_right}
use Rattle.domain.specs.Ranges.{most_limit}
use Rattle.check_pair.specs.declared.Extent.{Extent}
use Rattle.check_pair.specs.Pair.{gap, gaps}
use Rattle.check_pair.specs.Shortcut.{some_gap}
use Rattle.check_pair.specs.Span.{near_on, far_on, spans_on, spans}
use Rattle.check_pair.proofs.FarApart.{holds}

-- ---- what is at least the limit stays so beside another number

module _ (limit v w : Float) (p : T (not (is_nan v))) (q : T (not (is_nan w))) where
  first_up : T (le limit v) → T (le limit (larger v w))
  first_up h = go (lt v w) refl
    where
      go : (b : Bool) → lt v w ≡ b → T (le limit (cond b w v))
      go true e = le_chain limit v w h (lt→le v w (holds (lt v w) e))
      go false e = h

  second_up : T (le limit w) → T (le limit (larger v w))
  second_up h = go (lt v w) refl
    where
      go : (b : Bool) → lt v w ≡ b → T (le limit (cond b w v))
      go true e = h
      go false e = le_chain limit w v h (nlt→le v w p q (subst (λ (b : Bool). T (not b)) (sym e) tt))

-- ---- on an axis

record Tame (s e : Extent) (a : ℕ) : Type 0 where
  near_in : T (le (near_on s a) (near_on e a))
  far_in : T (le (far_on e a) (far_on s a))
  near_s : T (finite (near_on s a))
  far_s : T (finite (far_on s a))
  near_e : T (finite (near_on e a))
  far_e : T (finite (far_on e a))

low_finite : T (finite (neg most_limit))
unfolding neg of_bits
low_finite = tt

high_finite : T (finite most_limit)
unfolding of_bits
high_finite = tt

tame : (s e : Extent) (a : ℕ) → spans_on s e a ≡ true → Tame s e a
tame s e a h =
    let l = and_left (le (neg most_limit) (near_on s a) && le (far_on s a) most_limit) _ h in
    let r = and_right (le (neg most_limit) (near_on s a) && le (far_on s a) most_limit) _ h in
    let t = and_right (le (near_on s a) (near_on e a)) _ r in
    let low = holds _ (and_left (le (neg most_limit) (near_on s a)) _ l) in
    let high = holds _ (and_right (le (neg most_limit) (near_on s a)) _ l) in
    let in_near = holds _ (and_left (le (near_on s a) (near_on e a)) _ r) in
    let across = holds _ (and_left (le (near_on e a) (far_on e a)) _ t) in
    let in_far = holds _ (and_right (le (near_on e a) (far_on e a)) _ t) in
    let low_e = le_chain (neg most_limit) (near_on s a) (near_on e a) low in_near in
    let low_f = le_chain (neg most_limit) (near_on e a) (far_on e a) low_e across in
    let high_f = le_chain (far_on e a) (far_on s a) most_limit in_far high in
    let high_e = le_chain (near_on e a) (far_on e a) most_limit across high_f in
    record {
      near_in = in_near;
      far_in = in_far;
      near_s =
          finite_between (neg most_limit) (near_on s a) most_limit low_finite high_finite low (le_chain (near_on s a) (near_on e a) most_limit in_near high_e);
      far_s =
          finite_between (neg most_limit) (far_on s a) most_limit low_finite high_finite
          (le_chain (neg most_limit) (far_on e a) (far_on s a) low_f in_far) high;
      near_e = finite_between (neg most_limit) (near_on e a) most_limit low_finite high_finite low_e high_e;
      far_e = finite_between (neg most_limit) (far_on e a) most_limit low_finite high_finite low_f high_f;
    }

module _ (limit : Float) (e s b : Extent) (a : ℕ) (t : Tame s b a) (near : T (finite (near_on e a))) (far : T (finite (far_on e a))) where
  gap_in : T (le limit (gap e s a)) → T (le limit (gap e b a))
  gap_in h = go (lt (near_on s a ⊖ far_on e a) (near_on e a ⊖ far_on s a)) h
    where
      p : T (not (is_nan (near_on b a ⊖ far_on e a)))
      p = sub_number binary64 (near_on b a) (far_on e a) t.near_e (finite_number (far_on e a) far)

      q : T (not (is_nan (near_on e a ⊖ far_on b a)))
      q = sub_number binary64 (near_on e a) (far_on b a) near (finite_number (far_on b a) t.far_e)

      go : (c : Bool) → T (le limit (cond c (near_on e a ⊖ far_on s a) (near_on s a ⊖ far_on e a))) → T (le limit (gap e b a))
      go true k =
          second_up limit (near_on b a ⊖ far_on e a) (near_on e a ⊖ far_on b a) p q
          (le_chain limit (near_on e a ⊖ far_on s a) (near_on e a ⊖ far_on b a) k
          (sub_anti binary64 (far_on b a) (far_on s a) (near_on e a) t.far_e t.far_s near t.far_in))
      go false k =
          first_up limit (near_on b a ⊖ far_on e a) (near_on e a ⊖ far_on b a) p q
          (le_chain limit (near_on s a ⊖ far_on e a) (near_on b a ⊖ far_on e a) k
          (sub_mono binary64 (near_on s a) (near_on b a) (far_on e a) t.near_s t.near_e far t.near_in))

-- ---- on each axis

or_three : (a b c x y z : Bool) → (a ≡ true → x ≡ true) → (b ≡ true → y ≡ true) → (c ≡ true → z ≡ true) → (a || (b || c)) ≡ true → (x || (y || z)) ≡ true
or_three true b c x y z f g h e = rw (f refl)
or_three false true c true y z f g h e = refl
or_three false true c false y z f g h e = rw (g refl)
or_three false false c true y z f g h e = refl
or_three false false c false true z f g h e = refl
or_three false false c false false z f g h e = h e

-- e is in a span itself, and so its corners are ordinary numbers
pub span_far : (limit : Float) (e s b r : Extent) → spans r e ≡ true → spans s b ≡ true → some_gap limit (gaps e s) ≡ true → some_gap limit (gaps e b) ≡ true
unfolding spans
span_far limit e s b r he hb h =
    or_three (le limit (gap e s 0)) (le limit (gap e s 1)) (le limit (gap e s 2)) (le limit (gap e b 0)) (le limit (gap e b 1)) (le limit (gap e b 2))
    (on 0 (and_left (spans_on r e 0) _ he) (and_left (spans_on s b 0) _ hb))
    (on 1 (and_left (spans_on r e 1) _ (and_right (spans_on r e 0) _ he)) (and_left (spans_on s b 1) _ (and_right (spans_on s b 0) _ hb)))
    (on 2 (and_right (spans_on r e 1) _ (and_right (spans_on r e 0) _ he)) (and_right (spans_on s b 1) _ (and_right (spans_on s b 0) _ hb)))
    h
  where
    on : (a : ℕ) → spans_on r e a ≡ true → spans_on s b a ≡ true → le limit (gap e s a) ≡ true → le limit (gap e b a) ≡ true
    on a p q k =
        let t = tame r e a p in
        is_true (le limit (gap e b a)) (gap_in limit e s b a (tame s b a q) t.near_e t.far_e (holds (le limit (gap e s a)) k))
