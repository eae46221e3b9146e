-- `distance` meets its contract: the calls are the definition's own.
use Rattle.check_pair.specs.Pair.{distance_of}
use Rattle.check_pair.proofs.distance.Goals as goal

pub returns-in-Some : goal.returns-in-Some
unfolding distance_of
returns-in-Some c = cc

pub returns-in-None : goal.returns-in-None
unfolding distance_of
returns-in-None c = cc
