-- The verdict on two boxes is the same, and its distance the same bit by bit, whichever of the two comes first.
use Rattle.std.specs.Prelude.{◌≡◌, ◌⊎◌, Bool, cond, List, ℕ, ◌<◌, get_or, Float}
use Rattle.std.proofs.Common.{sym, ap, ◌∙◌, inl, inr, lit<}
use Rattle.std.specs.Float.{nan, binary64}
use Rattle.std.specs.Float.Ieee.{neg, lt}
use Rattle.std.specs.Float.Ieee.Fits.{sub-fits}
use Rattle.floats.specs.Ops.{◌⊖◌, ◌⊗◌, none, larger, x, y, z}
use Rattle.floats.specs.Numbers.{sub_number}
use Rattle.floats.specs.Larger.{is_zero, larger_turned, zero_lt, none_lt_zero}
use Rattle.check_pair.specs.declared.Extent.{Extent}
use Rattle.check_pair.specs.Pair.{gap, gaps, overlaps, squared, distance_of, verdict_at, verdict_of}
use Rattle.check_pair.specs.Solid.{Solid}

-- ---- gaps that are the same, or zeros of either sign, count alike

Alike : Float → Float → Type 0
Alike v w = (v ≡ w) ⊎ (is_zero v × is_zero w)

alike_lt : (v w u : Float) → Alike v w → lt v u ≡ lt w u
unfolding Alike
alike_lt v w u (inl e) = ap (λ (k : Float). lt k u) e
alike_lt v w u (inr k) = zero_lt v w u k.0 k.1

no_gap : (v : Float) → is_zero v → larger none v ≡ none
no_gap v h = ap (λ (b : Bool). cond b v none) (none_lt_zero v h)

alike_squared : (v w : Float) → Alike v w → squared v ≡ squared w
unfolding Alike
alike_squared v w (inl e) = ap squared e
alike_squared v w (inr k) = ap (λ (u : Float). ◌⊗◌ u u) (no_gap v k.0 ∙ sym (no_gap w k.1))

gap_alike : (a b : Extent) → Solid a → Solid b → (k : ℕ) → k < 3 → Alike (gap a b k) (gap b a k)
unfolding Alike
gap_alike a b A B k h =
    larger_turned binary64 (get_or b.min k nan ⊖ get_or a.max k nan) (get_or a.min k nan ⊖ get_or b.max k nan)
    (sub-fits binary64 (get_or b.min k nan) (get_or a.max k nan)) (sub-fits binary64 (get_or a.min k nan) (get_or b.max k nan))
    (sub_number binary64 (get_or b.min k nan) (get_or a.max k nan) (B.near k h) (A.far k h))
    (sub_number binary64 (get_or a.min k nan) (get_or b.max k nan) (A.near k h) (B.far k h))

-- ---- so the verdict is the same

distance_alike : (g h : List Float) → Alike (x g) (x h) → Alike (y g) (y h) → Alike (z g) (z h) → distance_of g ≡ distance_of h
unfolding distance_of
distance_alike g h i j k = rw (alike_squared (x g) (x h) i, alike_squared (y g) (y h) j, alike_squared (z g) (z h) k)

overlaps_alike : (g h : List Float) (t : Float) → Alike (x g) (x h) → Alike (y g) (y h) → Alike (z g) (z h) → overlaps g t ≡ overlaps h t
overlaps_alike g h t i j k = rw (alike_lt (x g) (x h) (neg t) i, alike_lt (y g) (y h) (neg t) j, alike_lt (z g) (z h) (neg t) k)

verdict_alike : (g h : List Float) (asked t : Float) → Alike (x g) (x h) → Alike (y g) (y h) → Alike (z g) (z h) → verdict_at g asked t ≡ verdict_at h asked t
unfolding verdict_at
verdict_alike g h asked t i j k = rw (overlaps_alike g h t i j k, distance_alike g h i j k)

pub verdict_turned : (a b : Extent) (asked t : Float) → Solid a → Solid b → verdict_of a b asked t ≡ verdict_of b a asked t
verdict_turned a b asked t A B =
    verdict_alike (gaps a b) (gaps b a) asked t (gap_alike a b A B 0 (lit< tt)) (gap_alike a b A B 1 (lit< tt)) (gap_alike a b A B 2 (lit< tt))
