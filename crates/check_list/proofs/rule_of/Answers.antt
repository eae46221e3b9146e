-- `rule_of` meets its contract.
use Rattle.check_list.proofs.rule_of.Goals as goal

pub returns : goal.returns
returns c = rw c.tolerance.ensures
