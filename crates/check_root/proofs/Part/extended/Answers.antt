-- `Part::extended` meets its contract: each turn is one more digit, with zeros for the number's.
use Rattle.std.proofs.Common.{arith}
use Rattle.check_root.specs.Powers.{wide_enough, four_more, two_more, at_end}
use Rattle.check_root.proofs.Part.extended.Goals as goal

pub step-p-requires-clause-small : goal.step-p-requires-clause-small
step-p-requires-clause-small c = let q = wide_enough _ _ c.loop-i.invariant.digits (omega arith) in omega arith

pub loop-i-preserved : goal.loop-i-preserved
loop-i-preserved c =
    let i = c.loop-i.invariant in
    let k = c.step-p.ensures in
    record { value = four_more _ _ _ _ k.value i.value; digits = two_more _ _ _ k.grows i.digits }

pub returns-clause-value : goal.returns-clause-value
returns-clause-value c = let i = c.loop-i.invariant in at_end _ _ _ (omega arith) (omega arith) i.value

pub returns-clause-digits : goal.returns-clause-digits
returns-clause-digits c = let i = c.loop-i.invariant in wide_enough _ _ i.digits (omega arith)
