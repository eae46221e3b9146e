-- `LayerFill::answer` meets its contract: the refusal, or what the step makes of the fill.
use Rattle.std.proofs.Common.{◌≡◌}
use Rattle.std.proofs.lemmas.Result.{err_from_is_err_and}
use Rattle.domain.specs.Refusal.{refused_as, no_number, no_refusal}
use Rattle.layer_fill.specs.Fill.{place_refusal, answered, room}
use Rattle.layer_fill.proofs.LayerFill.answer.Goals as goal
use Rattle.layer_fill.proofs.LayerFill.answer.Goals.{In_ok-place_refusal}

pub returns-in_err-place_refusal : goal.returns-in_err-place_refusal
unfolding answered
returns-in_err-place_refusal c =
    let p = err_from_is_err_and c.from_residual.result c.from_residual.ensures.1 in
    rw (p.1, p.2) (refused_as _ 0 tt _ _ c.in_err-place_refusal.ensures)

-- past the test the box is not refused
taken : (c : In_ok-place_refusal) → place_refusal c.args.self.count c.args.kind ≡ 0
taken c = no_refusal _ 0 tt tt c.in_ok-place_refusal.ensures

pub returns-in_default : goal.returns-in_default
unfolding answered
returns-in_default c = rw c.in_default.is (no_number _ 0 _ (taken (goal.at.returns-in_default c).In_ok-place_refusal))

pub pushed-requires : goal.pushed-requires
pushed-requires c = room _ c.args.kind (taken (goal.at.pushed-requires c).In_ok-place_refusal)

pub returns : goal.returns
unfolding answered
returns c = rw (c.pushed.ensures, c.in-Some.is) (no_number _ 0 _ (taken (goal.at.returns c).In_ok-place_refusal))
