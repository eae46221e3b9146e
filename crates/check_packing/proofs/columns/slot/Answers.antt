-- `columns::slot` meets its contract, by the test that led to each return.
use Rattle.check_packing.specs.Columns.{slot_of}
use Rattle.check_packing.proofs.columns.slot.Goals as goal

pub returns-then-counts-at : goal.returns-then-counts-at
unfolding slot_of
returns-then-counts-at c = rw (← c.from.ensures, ← c.from-2.ensures, c.if-counts-at.true)

pub returns : goal.returns
unfolding slot_of
returns c = rw (← c.from.ensures, ← c.from-2.ensures, c.if-counts-at.false)
