-- `point_state::new` meets its contract: refused by its container, or the stores blank but for the first point.
use Rattle.std.proofs.lemmas.Result.{err_from_is_err_and}
use Rattle.domain.specs.Refusal.{answer_with, refused_as, no_refusal}
use Rattle.domain.specs.Laws.{when_none}
use Rattle.measures.specs.Faults.{container_fault}
use Rattle.point_state.specs.Fresh.{start_of}
use Rattle.point_state.proofs.new.Goals as goal

pub returns-in_err-refuse : goal.returns-in_err-refuse
returns-in_err-refuse c =
    let p = err_from_is_err_and c.from_residual.result c.from_residual.ensures.1 in
    rw (p.1, p.2) (refused_as _ 0 tt _ _ (rw c.container_fault.ensures at c.in_err-refuse.ensures))

pub returns : goal.returns
unfolding start_of answer_with
returns c =
    let e = rw c.container_fault.ensures at c.in_ok-refuse.ensures in
    let fair = when_none (container_fault c.args.container) 2 (no_refusal _ 0 tt tt e) in
    rw fair
