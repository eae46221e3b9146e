-- `put_u16` meets its contract: the library's bytes of a number are those of its definition.
use Rattle.std.proofs.Common.{◌∙◌}
use Rattle.file_bytes.specs.Words.{u16_bytes}
use Rattle.file_bytes.proofs.put_u16.Goals as goal

pub returns : goal.returns
returns c = rw (c.to_le_bytes.ensures ∙ u16_bytes c.args.x) at c.put.ensures
