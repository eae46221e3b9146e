-- What a bit pattern stands for.
use Rattle.std.specs.Prelude.{◌≡◌, refl, ℕ, zero, suc, ◌+◌, ◌*◌, ◌/◌, ◌%◌, ◌^◌}
use Rattle.std.proofs.Common.{sym, ap, ◌∙◌, arith, pow-add}
use Rattle.check_root.specs.Sqrt.{mag, mant}

regroup : (a b p u : ℕ) → (a + b) * p * u ≡ (b + a) * (p * u)
regroup a b p u = omega arith

mant_low : (f t : ℕ) → f ≡ 0 → mant f t ≡ t
mant_low f t e = ap (λ (x : ℕ). mant x t) e

mant_high : (f t : ℕ) → (f ≡ 0 → ⊥) → mant f t * 2 ^ 1074 ≡ (t + 2 ^ 52) * 2 ^ (f + 1073)
mant_high zero t n = absurd (n refl)
mant_high (suc x) t n =
    let e : suc x + 1073 ≡ x + 1074 = omega arith in
    regroup (2 ^ 52) t (2 ^ x) (2 ^ 1074) ∙ ap (λ (z : ℕ). (t + 2 ^ 52) * z) (sym (pow-add 2 x 1074) ∙ ap (λ (z : ℕ). 2 ^ z) (sym e))

pub low_pattern : (b : ℕ) → b / 2 ^ 52 ≡ 0 → b % 2 ^ 52 * 2 ^ (1 + 1073) ≡ mag b * 2 ^ 1074
unfolding mag
low_pattern b e = ap (λ (z : ℕ). z * 2 ^ 1074) (sym (mant_low (b / 2 ^ 52) (b % 2 ^ 52) e))

pub high_pattern : (b : ℕ) → (b / 2 ^ 52 ≡ 0 → ⊥) → (b % 2 ^ 52 + 2 ^ 52) * 2 ^ (b / 2 ^ 52 + 1073) ≡ mag b * 2 ^ 1074
unfolding mag
high_pattern b n = sym (mant_high (b / 2 ^ 52) (b % 2 ^ 52) n)
