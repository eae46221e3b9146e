-- `shape::is_placed` meets its contract: the same tests in the same order.
use Rattle.file_read.specs.Form.{placed}
use borrow.Author.Rules.{rules}
use Rattle.file_read.proofs.shape.is_placed.Goals as goal

pub returns : goal.returns
unfolding placed
returns c = search rules
