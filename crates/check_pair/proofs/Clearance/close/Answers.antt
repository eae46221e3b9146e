-- `Clearance::close` meets its contract, by the test of the root.
use Rattle.check_pair.specs.Close.{close_of}
use Rattle.check_pair.proofs.Clearance.close.Goals as goal

pub returns-then-sqrt-least : goal.returns-then-sqrt-least
unfolding close_of
returns-then-sqrt-least c = rw (rw c.sqrt.ensures at c.if-sqrt-least.true)

pub returns : goal.returns
unfolding close_of
returns c = rw (rw c.sqrt.ensures at c.if-sqrt-least.false)
