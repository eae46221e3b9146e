-- `fill_thousand::solid` meets its contract: three numbers up to 10,000 multiply to 10 ^ 12 at most.
use Rattle.std.proofs.Common.{ℕ, ◌*◌, ◌≤◌, mul-le-mul, arith}
use Rattle.fill_thousand.specs.Fill.{solid_of}
use Rattle.fill_thousand.proofs.solid.Goals as goal

area : (w d : ℕ) → w ≤ 10000 → d ≤ 10000 → w * d ≤ 100000000
area w d p q = mul-le-mul p q

volume : (w d h : ℕ) → w ≤ 10000 → d ≤ 10000 → h ≤ 10000 → w * d * h ≤ 1000000000000
volume w d h p q r = mul-le-mul (area w d p q) r

pub overflow_mul-result : goal.overflow_mul-result
overflow_mul-result c = omega (arith, area _ _ c.side-w.ensures.most c.side-d.ensures.most)

pub overflow_mul-result-2 : goal.overflow_mul-result-2
overflow_mul-result-2 c = omega (arith, volume _ _ _ c.side-w.ensures.most c.side-d.ensures.most c.side-h.ensures.most)

pub returns : goal.returns
unfolding solid_of
returns c = record {
  value = rw (c.side-w.ensures.value, c.side-d.ensures.value, c.side-h.ensures.value);
  most = volume _ _ _ c.side-w.ensures.most c.side-d.ensures.most c.side-h.ensures.most;
}
