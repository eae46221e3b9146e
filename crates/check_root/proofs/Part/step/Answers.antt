-- `Part::step` meets its contract, on each side of the test.
use Rattle.std.proofs.Common.{arith}
use Rattle.check_root.proofs.Part.step.Goals as goal
use Rattle.check_root.proofs.Part.step.Goals.{then-r-t, else-r-t}

pub returns-clause-value : goal.returns-clause-value
returns-clause-value c = elim c.if-r-t.branch [ then-r-t w ↦ rw w.result-is (omega arith) | else-r-t w ↦ rw w.result-is (omega arith) ]
