-- `read::line_at` meets its contract: each field where the record has it.
use Rattle.file_read.specs.Reading.{line_of, line_from}
use Rattle.file_bytes.specs.Layout.{fields_at}
use Rattle.file_read.proofs.read.line_at.Goals as goal

pub returns : goal.returns
unfolding line_from line_of fields_at
returns c = cc
