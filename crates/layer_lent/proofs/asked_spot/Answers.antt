-- `asked_spot` meets its contract: the refusal, or the spot within the container's far limits.
use Rattle.std.proofs.lemmas.Result.{err_from_is_err_and}
use Rattle.domain.specs.Refusal.{refused_as, no_number, no_refusal}
use Rattle.layer_lent.specs.Asked.{asked_spot}
use Rattle.layer_lent.proofs.asked_spot.Goals as goal

pub returns-in_err-refuse : goal.returns-in_err-refuse
unfolding asked_spot
returns-in_err-refuse c =
    let p = err_from_is_err_and c.from_residual.result c.from_residual.ensures.1 in
    rw (p.1, p.2) (refused_as _ 0 tt _ _ (rw c.asked_fault.ensures at c.in_err-refuse.ensures))

pub returns : goal.returns
unfolding asked_spot
returns c =
    rw (c.spot.ensures, c.new-stand.ensures) (no_number _ 0 _ (no_refusal _ 0 tt tt (rw c.asked_fault.ensures at c.in_ok-refuse.ensures)))
