-- `plain` meets its contract, by what `bits_of` gives.
use Rattle.check_pair.proofs.plain.Goals as goal

pub returns : goal.returns
returns c = rw c.bits_of-b.ensures
