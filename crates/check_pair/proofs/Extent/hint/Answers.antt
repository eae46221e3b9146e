-- `Extent::hint` meets its contract: the hint of the sum of the squares of the gaps.
use mathlib.Core.Path.{ap, ◌∙◌}
use Rattle.check_root.specs.Hint.{hint_of}
use Rattle.check_pair.specs.Pair.{sum_of}
use Rattle.check_pair.proofs.Extent.hint.Goals as goal

pub returns : goal.returns
returns c = let s = c.before in c.hint.ensures ∙ ap hint_of (s.sum_of.ensures ∙ ap sum_of s.gaps.ensures)
