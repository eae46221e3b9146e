-- `sheet::empty_sheet` meets its contract, by what its callees give.
use Rattle.sheet.specs.Sheets.{empty_sheet}
use Rattle.sheet.proofs.empty_sheet.Goals as goal

pub returns : goal.returns
unfolding empty_sheet
returns c = rw (c.blank_kind-kind.ensures, c.blank_line-line.ensures)
