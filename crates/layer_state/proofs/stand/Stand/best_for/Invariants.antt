-- `Stand::best_for` meets its contract: a turn of the loop is a turn of the definition.
use mathlib.Core.Path.{◌≡◌}
use Rattle.layer_state.specs.Best.{best_of}
use Rattle.layer_state.proofs.stand.Stand.best_for.Given as goal

abbrev pub invariant-loop-i : goal.invariant-loop-i
invariant-loop-i l = l.best ≡ best_of l.self.container l.self.max l.self.cursor l.kind l.i
