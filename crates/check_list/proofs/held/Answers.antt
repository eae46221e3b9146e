-- `held` meets its contract, by the test that led to each return.
use Rattle.check_list.proofs.held.Goals as goal

pub returns-then-which-n : goal.returns-then-which-n
returns-then-which-n c = rw (rw c.fair-many.ensures at c.if-which-n.true)

pub returns : goal.returns
returns c = let e = c.fair-many.ensures in rw e (rw (rw e at c.if-which-n.false))
