-- `Bits` prints the sixteen digits.
use Rattle.std.proofs.Common.{arith}
use Rattle.std.proofs.Output.{has_written_of_eq}
use Rattle.show.proofs.Places.{sixteen_places}
use Rattle.show.proofs.BitsDisplay.fmt.Goals as goal

pub returns-clause-writes : goal.returns-clause-writes
returns-clause-writes g c =
    let written = rw (c.in_radix.ensures, c.laid_out.ensures) at c.write.ensures.writes in
    λ plain ok. has_written_of_eq _ _ _ _ _ (sixteen_places _ (omega arith)) (written plain ok)
