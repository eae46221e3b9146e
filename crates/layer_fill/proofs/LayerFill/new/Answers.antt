-- `LayerFill::new` meets its contract: the container is refused, or an empty fill comes of it.
use Rattle.std.proofs.lemmas.Result.{err_from_is_err_and}
use Rattle.domain.specs.Refusal.{refused_as, no_number, no_refusal}
use Rattle.layer_fill.proofs.LayerFill.new.Goals as goal

pub returns-in_err-refuse : goal.returns-in_err-refuse
returns-in_err-refuse c =
    let p = err_from_is_err_and c.from_residual.result c.from_residual.ensures.1 in
    rw (p.1, p.2) (refused_as _ 0 tt _ _ (rw c.container_fault.ensures at c.in_err-refuse.ensures))

pub returns : goal.returns
returns c = rw (c.new.ensures, c.no_lines-lines.ensures) (no_number _ 0 _ (no_refusal _ 0 tt tt (rw c.container_fault.ensures at c.in_ok-refuse.ensures)))
