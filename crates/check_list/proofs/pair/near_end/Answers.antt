-- `pair::near_end` meets its contract: a far span tells that each is far; else, while no box was near, each that was passed is far.
use Rattle.std.proofs.Common.{◌≡◌, ◌+◌, sym, ◌∙◌, arith}
use mathlib.Core.Logic.{⊎_elim}
use native.Mathlib.Nat.{eq-or-lt_of_le}
use Rattle.lists.specs.Bools.{or_left, or_right, not_true_of}
use Rattle.check_list.proofs.Spans.{box_between}
use Rattle.check_list.proofs.pair.near_end.Goals as goal

-- the first is far
pub loop-b-init : goal.loop-b-init
loop-b-init c =
    let first = sym c.is_far-2.ensures ∙ c.if-not-is_far.false in
    λ h k from below. let e : k ≡ c.args.from = omega arith in rw e first

pub loop-b-preserved : goal.loop-b-preserved
loop-b-preserved c =
    let i = c.loop-b.b-index in
    λ h k from below.
    ⊎_elim
    (λ e.
    let far = sym c.is_far-in-loop-b.ensures ∙ not_true_of c.is_far-in-loop-b.result (or_right c.loop-b.near _ h) in
    let b = box_between c.args.boxes.now (c.args.from + 1) c.args.to i (omega arith) in
    let q : k ≡ c.args.from + 1 + i = e in
    rw q (rw b at far))
    (λ m. c.loop-b.invariant (or_left c.loop-b.near _ h) k from m)
    (eq-or-lt_of_le {m = c.args.from + 1 + i} (omega arith))
