-- `put` of an unplaced id meets its contract: it is one word.
use Rattle.file_bytes.specs.Bytes.{word}
use Rattle.file_bytes.specs.Stores.{put}
use Rattle.file_write.proofs.write.U32Record.put.Goals as goal

pub returns : goal.returns
returns c = put word c.args.self c.put_u32.ensures c.requires
