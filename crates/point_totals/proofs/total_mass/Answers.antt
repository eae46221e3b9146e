-- `point_totals::total_mass` meets its contract: refused, or the mass of the boxes placed.
use Rattle.std.proofs.Common.{◌≡◌, arith}
use Rattle.std.proofs.Math.Bool.{false}
use Rattle.std.proofs.lemmas.Result.{err_from_is_err_and}
use Rattle.domain.specs.Laws.{when_none}
use Rattle.domain.specs.Refusal.{refused_as, no_refusal, no_number}
use Rattle.point_state.specs.Counts.{over, within_counts}
use Rattle.point_totals.proofs.total_mass.Goals as goal
use Rattle.point_totals.proofs.total_mass.Goals.{In_ok-within}

pub returns-in_err-within : goal.returns-in_err-within
returns-in_err-within c =
    let p = err_from_is_err_and c.from_residual.result c.from_residual.ensures.1 in
    rw (p.1, p.2) (refused_as _ 0 tt _ _ c.in_err-within.ensures)

fair : (c : In_ok-within) → over c.args.set ≡ false
fair c = when_none (over c.args.set) 1 (no_refusal _ 0 tt tt c.in_ok-within.ensures)

pub mass_below-requires : goal.mass_below-requires
mass_below-requires c = let h = (within_counts _ _ (fair (goal.at.mass_below-requires c).In_ok-within)).room in omega arith

pub returns : goal.returns
returns c = rw c.mass_below.ensures (no_number _ 0 _ (no_refusal _ 0 tt tt c.in_ok-within.ensures))
