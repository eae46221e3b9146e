-- `records::container_in` meets its contract on each side of the test.
use borrow.Author.Tests.{lt-ltb, le-ltb}
use Rattle.file_read.specs.Records.{container_in}
use Rattle.file_read.proofs.records.container_in.Goals as goal

pub returns-then-f-lt-BLOCK : goal.returns-then-f-lt-BLOCK
unfolding container_in
returns-then-f-lt-BLOCK c = rw (lt-ltb _ _ c.if-f-lt-BLOCK.true) c.blank_container.ensures

pub returns : goal.returns
unfolding container_in
returns c = rw (le-ltb _ _ c.if-f-lt-BLOCK.false) c.container_at.ensures
