-- `columns::mass_with` meets its contract, by the test.
use Rattle.check_packing.proofs.columns.mass_with.Goals as goal

pub returns-then-known : goal.returns-then-known
returns-then-known c = rw c.if-known.true (rw c.mass_or_none.ensures)

pub returns : goal.returns
returns c = rw c.if-known.false
