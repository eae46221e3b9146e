-- `u32_of` meets its contract: the library reads the four bytes.
use Rattle.std.proofs.Common.{◌∙◌}
use Rattle.file_bytes.specs.Words.{u32_le}
use Rattle.file_bytes.proofs.u32_of.Goals as goal

pub returns : goal.returns
returns c = c.from_le_bytes.ensures ∙ u32_le _
