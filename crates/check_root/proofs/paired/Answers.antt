-- `paired` meets its contract: an even exponent, or one left over.
use Rattle.check_root.specs.Powers.{even_pair, odd_pair}
use Rattle.check_root.proofs.paired.Goals as goal
use Rattle.check_root.proofs.paired.Goals.{then-e-eq0, else-e-eq0}

pub returns-clause-value : goal.returns-clause-value
returns-clause-value c =
    elim c.if-e-eq0.branch [ then-e-eq0 w ↦ rw w.result-is (even_pair _ _ w.if-e-eq0.true) | else-e-eq0 w ↦ rw w.result-is (odd_pair _ _ w.if-e-eq0.false) ]
