-- `check_pair::squared` meets its contract, by what `larger` gives.
use Rattle.check_pair.proofs.squared.Goals as goal

pub returns : goal.returns
returns c = rw c.larger-p.ensures
