-- `box_of` meets its contract: the near corner is the line's, and each axis of the far one is a sum.
use Rattle.check_words.proofs.box_of.Goals as goal

pub returns : goal.returns
returns c = rw c.dimensions_for_orientation-size.ensures
