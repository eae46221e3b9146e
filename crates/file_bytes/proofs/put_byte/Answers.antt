-- `put_byte` meets its contract: a byte is its own remainder by 256.
use Rattle.std.proofs.Common.{arith}
use Rattle.file_bytes.specs.Words.{byte_out_is}
use Rattle.file_bytes.proofs.put_byte.Goals as goal

pub returns : goal.returns
returns c = rw (byte_out_is c.args.x (omega arith)) at c.put.ensures
