-- `check_pair::sum_of` meets its contract: the calls are the definition's own.
use Rattle.check_pair.proofs.sum_of.Goals as goal

pub returns : goal.returns
returns c = cc
