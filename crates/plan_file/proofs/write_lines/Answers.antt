-- `plan_file::write_lines` meets its contract: refused where the counts are over, else as the writing of the plan is.
use Rattle.std.proofs.lemmas.Result.{err_from_is_err_and}
use Rattle.plan_file.specs.Laid.{lines_refused, lines_written}
use Rattle.plan_file.proofs.write_lines.Goals as goal

pub returns-in_err-left : goal.returns-in_err-left
returns-in_err-left c =
    let p = err_from_is_err_and c.from_residual.result c.from_residual.ensures.1 in
    rw (p.1, p.2) (lines_refused c.args.order.now c.args.told c.args.lines.now c.args.sheet.now _ (rw c.counts_in-kinds.ensures at c.in_err-left.ensures))

pub returns : goal.returns
returns c =
    lines_written c.args.order.now c.args.told c.args.lines.now c.args.sheet.now c.in_ok-left.left _ _ (rw c.counts_in-kinds.ensures at c.in_ok-left.ensures)
    (rw c.counts_in-kinds.ensures at c.write_plan.ensures)
