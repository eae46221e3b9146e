-- `too_many` meets its contract, by whether the file has sections.
use Rattle.file_read.specs.Records.{right_says, wrong_says}
use Rattle.layer_instances.specs.Instances.{over_number}
use Rattle.layer_instances.proofs.too_many.Goals as goal

pub returns-in-Some : goal.returns-in-Some
unfolding over_number
returns-in-Some c = rw (right_says _ _ c.in-Some.ensures).shape

pub returns-in-None : goal.returns-in-None
unfolding over_number
returns-in-None c = rw (wrong_says _ c.in-None.ensures)
