-- A box that ends within the container, by either placer's test, begins at a position that a sheet may have.
use Rattle.std.specs.Prelude.{◌≡◌, true, false, not, T, Float}
use Rattle.std.proofs.Common.{subst}
use Rattle.std.specs.Float.{binary64}
use Rattle.std.specs.Float.Ieee.{lt, le, neg, is_nan}
use Rattle.floats.specs.Ops.{◌⊕◌, ◌⊖◌}
use Rattle.floats.specs.Order.{signed, signed_number, le_chain, le_number_l, nlt→le}
use Rattle.floats.specs.Sums.{add_commutes, add_signed}
use Rattle.floats.specs.Numbers.{add_number}
use Rattle.domain.specs.Ranges.{most, is_length, is_position, slack}
use Rattle.plan_laws.specs.Top.{more_top, low_none, low_eps}
use Rattle.plan_laws.specs.Spots.{fails, least, length_finite, not_negative, between, number_r, limit_top}
use Rattle.plan_laws.proofs.Top.{end_top}

-- RULES: Second placer: cursor. No, where x + width is over the far limit; where it is not, x is in range
pub layer_axis : (size margin at len : Float) → is_length size ≡ true → signed false margin → signed false at → is_length len ≡ true
    → lt (size ⊖ margin) (at ⊕ len) ≡ false → is_position at ≡ true
layer_axis size margin at len h p q k e =
    let top = limit_top size margin h p in
    let far : T (le (at ⊕ len) (size ⊖ margin)) =
    nlt→le (size ⊖ margin) (at ⊕ len) (le_number_l (size ⊖ margin) most top)
    (signed_number false (at ⊕ len) (add_signed binary64 at len q (not_negative len k))) (fails e) in
    between at (low_none at q) (end_top at len (signed_number false at q) (least len k) (le_chain (at ⊕ len) (size ⊖ margin) most far top))

-- RULES: First placer: point test. A box that is inside, up to the slack at both ends, stands at a position in range
pub point_axis : (size margin at len : Float) → is_length size ≡ true → signed false margin → T (not (is_nan at)) → is_length len ≡ true
    → lt at (margin ⊖ slack) ≡ false → lt (size ⊖ margin ⊕ slack) (at ⊕ len) ≡ false → is_position at ≡ true
point_axis size margin at len h p q k e f =
    let low = low_eps margin p in
    let top = more_top (size ⊖ margin) (limit_top size margin h p) in
    let near : T (le (margin ⊖ slack) at) = nlt→le at (margin ⊖ slack) q (number_r (neg most) (margin ⊖ slack) low) (fails e) in
    let number : T (not (is_nan (at ⊕ len))) =
    subst (λ (v : Float). T (not (is_nan v))) (add_commutes binary64 len at) (add_number binary64 len at (length_finite len k) q) in
    let far : T (le (at ⊕ len) (size ⊖ margin ⊕ slack)) =
    nlt→le (size ⊖ margin ⊕ slack) (at ⊕ len) (le_number_l (size ⊖ margin ⊕ slack) most top) number (fails f) in
    between at (le_chain (neg most) (margin ⊖ slack) at low near)
    (end_top at len q (least len k) (le_chain (at ⊕ len) (size ⊖ margin ⊕ slack) most far top))
