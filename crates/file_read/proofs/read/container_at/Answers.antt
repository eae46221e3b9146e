-- `read::container_at` meets its contract: each field where the block has it.
use Rattle.file_read.specs.Reading.{container_of, container_from}
use Rattle.file_bytes.specs.Layout.{fields_at}
use Rattle.file_read.proofs.read.container_at.Goals as goal

pub returns : goal.returns
unfolding container_from container_of fields_at
returns c = cc
