-- `u64_at` meets its contract: the library reads the eight bytes there.
use Rattle.std.proofs.Common.{◌∙◌}
use Rattle.file_bytes.specs.Words.{u64_le}
use Rattle.file_bytes.proofs.u64_at.Goals as goal

pub returns : goal.returns
returns c = c.from_le_bytes.ensures ∙ u64_le _ ∙ c.bytes_at.ensures
