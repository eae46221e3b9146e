-- `line::inside` meets its contract: the three axes in turn.
use Rattle.check_list.specs.Finding.{box_inside}
use Rattle.check_list.proofs.line.inside.Goals as goal

pub returns : goal.returns
unfolding box_inside
returns c = cc
