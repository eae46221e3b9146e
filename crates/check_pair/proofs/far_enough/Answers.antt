-- `far_enough` meets its contract: nothing is asked, or one gap of a plain number.
use Rattle.check_pair.proofs.far_enough.Goals as goal

pub returns : goal.returns
returns c = rw (c.some_gap.ensures, c.plain.ensures)
