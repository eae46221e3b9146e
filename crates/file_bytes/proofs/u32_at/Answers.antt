-- `u32_at` meets its contract: the library reads the four bytes there.
use Rattle.std.proofs.Common.{◌∙◌}
use Rattle.file_bytes.specs.Words.{u32_le}
use Rattle.file_bytes.proofs.u32_at.Goals as goal

pub returns : goal.returns
returns c = c.from_le_bytes.ensures ∙ u32_le _ ∙ c.bytes_at.ensures
