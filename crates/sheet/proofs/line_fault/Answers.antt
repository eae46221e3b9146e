-- `sheet::line_fault` meets its contract, by what each range test says.
use Rattle.sheet.specs.Sheets.{line_fault}
use Rattle.sheet.proofs.line_fault.Goals as goal

pub returns : goal.returns
unfolding line_fault
returns c = cc
