-- `room` meets its contract: no part of it wraps.
use mathlib.Core.Path.{refl}
use Prim.Native.Nat.{ℕ, ◌*◌, ◌≤◌}
use native.Mathlib.Nat.{mul-le-mul}
use native.Mathlib.Omega.{arith}
use Rattle.domain.specs.Bounds.{most_lines}
use Rattle.check_words.specs.Wrote.{room_for}
use Rattle.check_packing.proofs.room.Goals as goal

square : (n : ℕ) → n ≤ most_lines → n * n ≤ most_lines * most_lines
square n h = mul-le-mul {n₂ = most_lines} {m₂ = most_lines} h h

pub returns : goal.returns
unfolding room_for
returns c = refl

pub overflow_mul-result-2 : goal.overflow_mul-result-2
overflow_mul-result-2 c = omega (arith, square c.args.n c.requires.1.0)

pub overflow_add-result : goal.overflow_add-result
overflow_add-result c = omega (arith, square c.args.n c.requires.1.0)

pub overflow_add-result-2 : goal.overflow_add-result-2
overflow_add-result-2 c = omega (arith, square c.args.n c.requires.1.0)

pub overflow_add-result-3 : goal.overflow_add-result-3
overflow_add-result-3 c = omega (arith, square c.args.n c.requires.1.0)

pub overflow_add-result-4 : goal.overflow_add-result-4
overflow_add-result-4 c = omega (arith, square c.args.n c.requires.1.0)

pub overflow_mul-result-3 : goal.overflow_mul-result-3
overflow_mul-result-3 c = omega (arith, square c.args.n c.requires.1.0)
