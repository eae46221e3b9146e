-- `fill_thousand::uneven` meets its contract, test by test.
use Rattle.fill_thousand.specs.Fill.{uneven}
use Rattle.fill_thousand.proofs.uneven.Goals as goal

pub returns : goal.returns
unfolding uneven
returns c = rw (c.side.ensures.value, c.side-2.ensures.value, c.side-3.ensures.value)
