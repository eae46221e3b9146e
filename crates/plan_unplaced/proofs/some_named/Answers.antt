-- `plan_unplaced::some_named` meets its contract: while no line has the id, each that was passed is of another kind.
use mathlib.Core.Logic.{⊎_elim}
use native.Mathlib.Nat.{eq-or-lt_of_le, le_of_suc-le-suc}
use native.Mathlib.Numerals.{add-one}
use native.Mathlib.Omega.{arith}
use Rattle.lists.specs.Bools.{or_left, or_right}
use Rattle.plan_unplaced.proofs.some_named.Goals as goal

pub loop-j-init : goal.loop-j-init
loop-j-init c h = record { none_named = λ j a b. absurd (omega arith) }

pub loop-j-preserved : goal.loop-j-preserved
loop-j-preserved c h =
    let l = c.loop-j in
    record {
      none_named =
          λ j a b.
          ⊎_elim (λ e. rw e (or_right l.named _ h)) (λ m. (l.invariant (or_left l.named _ h)).none_named j a m)
          (eq-or-lt_of_le (le_of_suc-le-suc (rw add-one at b)));
    }
