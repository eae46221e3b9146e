-- `Stand::best_for` meets its contract: a turn of the loop is a turn of the definition.
use Rattle.std.proofs.Common.{◌≤◌, add-one, arith}
use Rattle.measures.specs.Among.{lengths_among_lem}
use Rattle.layer_state.specs.Best.{best_of, few}
use Rattle.layer_state.proofs.stand.Stand.best_for.Goals as goal

pub loop-i-preserved : goal.loop-i-preserved
unfolding best_of
loop-i-preserved c =
    let l = c.loop-i in
    rw add-one
    (rw (
      c.better-best.ensures,
      c.spot-spot.ensures,
      c.dimensions_among-size.ensures,
      c.all_turned-all.ensures,
      lengths_among_lem c.args.kind l.i,
      l.invariant,
    ))

pub overflow_cast-n : goal.overflow_cast-n
overflow_cast-n c =
    let e : c.allowed_orientations-n.result ≤ 6 = rw c.allowed_orientations-n.ensures (few c.args.kind.rule) in
    record { fits = omega arith }
