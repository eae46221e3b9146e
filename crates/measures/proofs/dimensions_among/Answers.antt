-- `measures::dimensions_among` meets its contract: past the list the lengths stay, else they are those of the row.
use Rattle.std.proofs.Common.{le-ltb, lt-ltb}
use Rattle.measures.specs.Among.{lengths_among}
use Rattle.measures.proofs.dimensions_among.Goals as goal

pub returns-then-allowed_orientations-o : goal.returns-then-allowed_orientations-o
unfolding lengths_among
returns-then-allowed_orientations-o c = rw (le-ltb _ _ (rw c.allowed_orientations.ensures at c.if-allowed_orientations-o.true))

pub returns : goal.returns
unfolding lengths_among
returns c = rw (lt-ltb _ _ (rw c.allowed_orientations.ensures at c.if-allowed_orientations-o.false)) (rw c.share.ensures.0)
