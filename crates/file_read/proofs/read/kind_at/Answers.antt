-- `read::kind_at` meets its contract: each field where the record has it.
use Rattle.file_read.specs.Reading.{kind_of, kind_from}
use Rattle.file_bytes.specs.Layout.{fields_at}
use Rattle.file_read.proofs.read.kind_at.Goals as goal

pub returns : goal.returns
unfolding kind_from kind_of fields_at
returns c = cc
