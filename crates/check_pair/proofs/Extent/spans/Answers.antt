-- `Extent::spans` meets its contract, axis by axis.
use Rattle.check_pair.specs.Span.{spans}
use Rattle.check_pair.proofs.Extent.spans.Goals as goal

pub returns : goal.returns
unfolding spans
returns c = cc
