-- `domain::refuse` meets its contract: it refuses exactly where the test holds.
use Rattle.domain.specs.Refusal.{number_of, needed_of, refused_when, passed_when}
use Rattle.domain.proofs.refuse.Goals as goal

pub returns-then-b : goal.returns-then-b
returns-then-b c = refused_when c.args.b c.args.refusal tt c.if-b.true

pub returns : goal.returns
returns c = passed_when c.args.b (number_of c.args.refusal) (needed_of c.args.refusal) tt c.if-b.false
