-- `byte_at` meets its contract: a byte is a number of its own, and nothing stands past the end.
use Rattle.std.proofs.Common.{◌∙◌, arith}
use Rattle.file_bytes.specs.Words.{byte_is}
use Rattle.file_bytes.proofs.byte_at.Goals as goal

pub returns : goal.returns
returns c = c.unwrap_or.ensures ∙ rw c.copied.ensures (c.get.ensures.lookup.4 (omega arith) 0) ∙ byte_is _ _
