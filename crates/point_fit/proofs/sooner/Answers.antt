-- `point_fit::sooner` meets its contract: the tests on z, y and x.
use borrow.Author.Rules.{rules}
use Rattle.point_fit.specs.Sooner.{sooner}
use Rattle.point_fit.proofs.sooner.Goals as goal

pub returns : goal.returns
unfolding sooner
returns c = search rules
