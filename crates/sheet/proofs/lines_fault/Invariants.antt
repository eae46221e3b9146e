-- `sheet::lines_fault` meets its contract: no line passed is refused.
use Rattle.std.proofs.Common.{◌≡◌}
use Rattle.domain.specs.Refusals.{first_below}
use Rattle.sheet.specs.Sheets.{line_fault_in}
use Rattle.sheet.proofs.lines_fault.Given as goal

abbrev pub invariant-loop-line : goal.invariant-loop-line
invariant-loop-line l = first_below (line_fault_in l.lines) l.line-index ≡ 0
