-- `point_fit::in_room` meets its contract: the six tests.
use borrow.Author.Rules.{rules}
use Rattle.point_fit.specs.Fit.{in_room}
use Rattle.point_fit.proofs.in_room.Goals as goal

pub returns : goal.returns
unfolding in_room
returns c = search rules
