-- `Extent::is_far` meets its contract: one of the gaps.
use mathlib.Core.Path.{◌∙◌}
use Rattle.check_pair.proofs.Extent.is_far.Goals as goal

pub returns : goal.returns
returns c = c.some_gap.ensures ∙ rw c.gaps.ensures
