-- `point_fit::below_ends` meets its contract: the three tests.
use borrow.Author.Rules.{rules}
use Rattle.point_fit.specs.Ends.{below_ends}
use Rattle.point_fit.proofs.below_ends.Goals as goal

pub returns : goal.returns
unfolding below_ends
returns c = search rules
