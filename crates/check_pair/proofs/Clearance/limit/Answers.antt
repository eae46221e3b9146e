-- `Clearance::limit` meets its contract, by the tests that led to each return.
use Rattle.check_pair.specs.Shortcut.{limit_of}
use Rattle.check_pair.proofs.Clearance.limit.Goals as goal

pub returns-then-least : goal.returns-then-least
unfolding limit_of
returns-then-least c = rw c.if-least.true

pub returns-then-plain-self : goal.returns-then-plain-self
unfolding limit_of
returns-then-plain-self c = rw c.if-least.false (rw (← c.plain.ensures) (rw c.if-plain-self.true))

pub returns : goal.returns
unfolding limit_of
returns c = rw c.if-least.false (rw (← c.plain.ensures) (rw c.if-plain-self.false))
