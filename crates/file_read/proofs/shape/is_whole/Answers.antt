-- `shape::is_whole` meets its contract: the same tests in the same order.
use Rattle.file_read.specs.Form.{whole}
use borrow.Author.Rules.{rules}
use Rattle.file_read.proofs.shape.is_whole.Goals as goal

pub returns : goal.returns
unfolding whole
returns c = search rules
