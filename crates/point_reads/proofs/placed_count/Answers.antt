-- `point_reads::placed_count` meets its contract: refused, or the number of boxes.
use Rattle.std.proofs.lemmas.Result.{err_from_is_err_and}
use Rattle.domain.specs.Refusal.{refused_as, no_refusal, no_number}
use Rattle.point_reads.proofs.placed_count.Goals as goal

pub returns-in_err-within : goal.returns-in_err-within
returns-in_err-within c =
    let p = err_from_is_err_and c.from_residual.result c.from_residual.ensures.1 in
    rw (p.1, p.2) (refused_as _ 0 tt _ _ c.in_err-within.ensures)

pub returns : goal.returns
returns c = no_number _ 0 _ (no_refusal _ 0 tt tt c.in_ok-within.ensures)
