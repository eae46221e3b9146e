-- `domain::is_limit` meets its contract: the bits that it tests are those of its argument.
use Rattle.domain.proofs.is_limit.Goals as goal

pub returns : goal.returns
returns c = rw c.bits_of-b.ensures
