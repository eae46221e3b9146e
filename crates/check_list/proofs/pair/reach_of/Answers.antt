-- `pair::reach_of` meets its contract, by its test.
use Rattle.check_list.proofs.pair.reach_of.Goals as goal

pub returns : goal.returns
returns c = rw c.if-spanned.false
