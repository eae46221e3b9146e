-- `check_pair::tolerance` meets its contract: the calls are the definition's own.
use Rattle.check_pair.specs.Tolerance.{tolerance_of}
use Rattle.check_pair.proofs.tolerance.Goals as goal

pub returns : goal.returns
unfolding tolerance_of
returns c = cc
