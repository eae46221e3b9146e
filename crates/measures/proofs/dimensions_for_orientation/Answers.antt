-- `measures::dimensions_for_orientation` meets its contract: past the list the lengths stay, else each place has its axis.
use borrow.Author.Tests.{le-ltb, lt-ltb}
use Rattle.measures.specs.Orders.{lengths_in}
use Rattle.measures.proofs.dimensions_for_orientation.Goals as goal

pub returns-then-allowed_orientations-i : goal.returns-then-allowed_orientations-i
unfolding lengths_in
returns-then-allowed_orientations-i c = rw (le-ltb _ _ (rw c.allowed_orientations.ensures at c.if-allowed_orientations-i.true))

pub returns : goal.returns
unfolding lengths_in
returns c =
    rw (lt-ltb _ _ (rw c.allowed_orientations.ensures at c.if-allowed_orientations-i.false))
    (rw (c.turned.ensures, c.share.ensures.0))
