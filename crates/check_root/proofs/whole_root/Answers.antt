-- `whole_root` meets its contract: each turn takes the next two digits of the number.
use Rattle.std.proofs.Common.{◌≡◌, ◌-◌, ◌*◌, ◌+◌, arith}
use Rattle.check_root.specs.Powers.{small_root, next_digits, no_digits}
use Rattle.check_root.proofs.whole_root.Goals as goal

pub step-p-requires-clause-small : goal.step-p-requires-clause-small
step-p-requires-clause-small c = let q = small_root _ _ _ _ c.loop-i.invariant.value c.requires in omega arith

pub loop-i-preserved : goal.loop-i-preserved
loop-i-preserved c =
    let n : 54 - 2 * (c.loop-i.i + 1) ≡ 52 - 2 * c.loop-i.i = omega arith in
    let e = next_digits _ _ c.args.m (54 - 2 * c.loop-i.i) (52 - 2 * c.loop-i.i) (omega arith) c.loop-i.invariant.value c.step-p.ensures.value in
    record { value = rw n e; left = c.step-p.result.left }

pub returns : goal.returns
returns c = no_digits _ _ _ (omega arith) c.loop-i.invariant.value
