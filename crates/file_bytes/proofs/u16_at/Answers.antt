-- `u16_at` meets its contract: the library reads the two bytes there.
use Rattle.std.proofs.Common.{◌∙◌}
use Rattle.file_bytes.specs.Words.{u16_le}
use Rattle.file_bytes.proofs.u16_at.Goals as goal

pub returns : goal.returns
returns c = c.from_le_bytes.ensures ∙ u16_le _ ∙ c.bytes_at.ensures
