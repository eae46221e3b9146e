-- `units` meets its contract: the two kinds of pattern, without a leading digit and with it.
use Rattle.std.proofs.Common.{◌∙◌}
use Rattle.check_root.specs.Pattern.{low_pattern, high_pattern}
use Rattle.check_root.proofs.units.Goals as goal

pub returns-then-f-eq0-clause-value : goal.returns-then-f-eq0-clause-value
returns-then-f-eq0-clause-value c = c.paired.ensures.value ∙ low_pattern _ c.if-f-eq0.true

pub returns-else-f-eq0-clause-value : goal.returns-else-f-eq0-clause-value
returns-else-f-eq0-clause-value c = c.paired-else-f-eq0.ensures.value ∙ high_pattern _ c.if-f-eq0.false
