-- `sheet::lines_fault` meets its contract: no line passed is refused, and the one that is decides.
use Rattle.std.proofs.Common.{◌≡◌, length, refl, arith}
use Rattle.std.proofs.lemmas.Result.{err_from_is_err_and}
use Rattle.domain.specs.Refusals.{first_below}
use Rattle.domain.specs.Refusal.{first_at, no_refusal, no_number, none_to}
use Rattle.sheet.specs.Sheets.{line_fault_in}
use Rattle.sheet.proofs.lines_fault.Goals as goal

pub loop-line-init : goal.loop-line-init
unfolding first_below
loop-line-init c = refl

pub returns-in_err-line_fault : goal.returns-in_err-line_fault
unfolding line_fault_in
returns-in_err-line_fault c =
    let p = err_from_is_err_and c.from_residual.result c.from_residual.ensures.1 in
    rw (p.1, p.2)
    (first_at (line_fault_in c.args.lines.now) (length c.args.lines.now) c.loop-line.line-index 0 tt tt _ c.loop-line.invariant
    c.loop-line-test.true c.in_err-line_fault.ensures)

pub loop-line-preserved : goal.loop-line-preserved
unfolding line_fault_in
loop-line-preserved c =
    none_to (line_fault_in c.args.lines.now) c.loop-line.line-index c.loop-line.invariant (no_refusal _ 0 tt tt c.in_ok-line_fault.ensures)

pub returns : goal.returns
returns c =
    let e : c.loop-line.line-index ≡ length c.args.lines.now = omega arith in
    no_number _ 0 tt (rw e at c.loop-line.invariant)
