-- `measures::allowed_orientations` meets its contract, by the test that led to each return.
use Rattle.measures.proofs.Tables.{share_past}
use Rattle.measures.proofs.allowed_orientations.Goals as goal

pub returns-then-rule-eq0 : goal.returns-then-rule-eq0
returns-then-rule-eq0 c = rw c.if-rule-eq0.true

pub returns-then-rule-eq1 : goal.returns-then-rule-eq1
returns-then-rule-eq1 c = rw c.if-rule-eq1.true

pub returns : goal.returns
returns c = rw (share_past _ c.if-rule-eq0.false c.if-rule-eq1.false)
