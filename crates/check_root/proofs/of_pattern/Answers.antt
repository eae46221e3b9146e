-- `of_pattern` meets its contract: the nearest whole root and the exponent make the pattern of the rounded root.
use Rattle.std.proofs.Common.{ℕ, ◌+◌, ◌-◌, ◌*◌, ◌^◌, ◌∙◌, ap}
use Rattle.std.specs.Float.{binary64}
use Rattle.std.specs.Float.Ieee.{of_bits}
use Rattle.check_root.specs.Sqrt.{rounded}
use Rattle.check_root.specs.Rounded.{of_scaled}
use Rattle.check_root.proofs.of_pattern.Goals as goal

pub returns : goal.returns
returns c =
    let norm = c.normal-s.result in
    c.of_bits.ensures
    ∙ ap (λ (k : ℕ). of_bits binary64 (k + (norm.g - 26) * 2 ^ 52)) c.near_by.ensures.value
    ∙ of_scaled _ _ c.normal-s.ensures.normal norm.digits norm.low norm.high
    ∙ ap (λ (n : ℕ). rounded binary64 n) (c.normal-s.ensures.value ∙ c.units.ensures.value)
