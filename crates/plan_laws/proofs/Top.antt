-- What is past 1,000,000,000 is not within it with a length added.
use Rattle.std.specs.Prelude.{◌≡◌, refl, Bool, not, ◌+◌, ◌*◌, ◌^◌, ◌≤◌, Float}
use Rattle.std.proofs.Common.{sym, subst, mul-pos, pow_pos}
use Rattle.std.proofs.Math.Bool.{true, false}
use native.Mathlib.Omega.{arith}
use Rattle.std.proofs.Math.Dec.{T}
use Rattle.std.specs.Float.{nan, inf, fin, binary64}
use Rattle.std.specs.Float.Ieee.{of_bits, up, down, round, add, lt, le, is_nan}
use Rattle.std.specs.Float.Ieee.Fits.{down_pos}
use Rattle.std.specs.Float.Ieee.Order.{round_mono}
use Rattle.floats.specs.Ops.{◌⊕◌}
use Rattle.floats.specs.Compare.{says}
use Rattle.floats.specs.Order.{le_chain, nlt→le, lt→le}
use Rattle.domain.specs.Ranges.{least_length, most}
use Rattle.plan_laws.specs.Top.{far_fits, over_is}

too_far : (v w : Float) → T (lt most v) → T (le least_length w) → T (le (v ⊕ w) most) → ⊥
unfolding le lt add of_bits
too_far nan w h k l = h
too_far (inf true) w h k l = h
too_far (inf false) nan h k l = k
too_far (inf false) (inf true) h k l = k
too_far (inf false) (inf false) h k l = l
too_far (inf false) (fin t n d) h k l = l
too_far (fin true m e) w h k l = h
too_far (fin false m e) nan h k l = k
too_far (fin false m e) (inf true) h k l = k
too_far (fin false m e) (inf false) h k l = l
too_far (fin false m e) (fin true n d) h k l =
    let a : 4722366482869645 * 1 * down d + n * up d * 2 ^ 72 ≤ 0 = says false (4722366482869645 * 1 * down d) true (n * up d * 2 ^ 72) k in
    let b = down_pos d in
    omega arith
too_far (fin false m e) (fin false n d) h k l =
    let P = 1000000000 * 2 ^ 72 + 4722366482869645 in
    let r : T (le (round binary64 false P (2 ^ 72)) (round binary64 false (m * up e * down d + n * up d * down e) (down e * down d))) =
    round_mono binary64 P (2 ^ 72) (m * up e * down d + n * up d * down e) (down e * down d) (pow_pos 72) (mul-pos (down_pos e) (down_pos d))
    (far_fits 1000000000 (2 ^ 72) 4722366482869645 (m * up e) (down e) (n * up d) (down d)
    (says false (1953125 * 2 ^ 9 * down e) false (m * up e * 1) (lt→le most (fin false m e) h))
    (says false (4722366482869645 * 1 * down d) false (n * up d * 2 ^ 72) k)) in
    subst T over_is (le_chain (round binary64 false P (2 ^ 72)) (round binary64 false (m * up e * down d + n * up d * down e) (down e * down d)) most r l)

-- a position that is no NaN, with a length added at most 1,000,000,000
pub end_top : (v w : Float) → T (not (is_nan v)) → T (le least_length w) → T (le (v ⊕ w) most) → T (le v most)
end_top v w p k l = go (lt most v) refl
  where
    go : (b : Bool) → lt most v ≡ b → T (le v most)
    go true e = absurd (too_far v w (subst T (sym e) tt) k l)
    go false e = nlt→le most v (unfold is_nan of_bits in tt) p (subst (λ (t : Bool). T (not t)) (sym e) tt)
