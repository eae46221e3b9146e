-- `plan_unplaced::in_file::unplaced_list` meets its contract: the file's refusal, or what its own lines leave.
use Rattle.std.proofs.Common.{◌∙◌}
use Rattle.std.proofs.lemmas.Result.{err_from_is_err_and}
use Rattle.domain.specs.Refusal.{or_refuses}
use Rattle.file_accept.specs.Accept.{Taken, taken}
use Rattle.plan_unplaced.specs.InFile.{file_unplaced, unplaced_is}
use Rattle.plan_unplaced.proofs.in_file.unplaced_list.Goals as goal
use Rattle.plan_unplaced.proofs.in_file.unplaced_list.Goals.{In_ok-a}

pub returns-in_err-a : goal.returns-in_err-a
unfolding file_unplaced
returns-in_err-a c =
    let p = err_from_is_err_and c.from_residual.result c.from_residual.ensures.1 in rw (p.1, p.2) (or_refuses _ _ _ _ c.in_err-a.ensures)

known : (c : In_ok-a) → Taken c.args.file.now c.in_ok-a.a
known c = taken _ _ c.in_ok-a.ensures

pub put_lines-requires : goal.put_lines-requires
put_lines-requires c = known (goal.at.put_lines-requires c).In_ok-a

pub returns : goal.returns
returns c =
    let t = known (goal.at.returns c).In_ok-a in
    c.left_in.ensures ∙ unplaced_is _ t.sound _ _ t.can_read t.kinds_are t.lines_are _ (rw c.blank_line-lines.ensures at c.put_lines.ensures)
