-- `items::lay_items` meets its contract: a refusal in its turn, that of too few lines too, or the fill of the items.
use mathlib.Core.Path.{◌≡◌, sym, ap, ◌∙◌}
use mathlib.Core.Bool.{Bool, false}
use mathlib.Core.List.{List}
use Prim.Native.Nat.{ℕ}
use borrow.Author.Tests.{ltb-false}
use Rattle.std.proofs.lemmas.Result.{err_from_is_err_and}
use Rattle.domain.specs.Laws.{when_none}
use Rattle.domain.specs.Refusal.{no_refusal, room_enough}
use Rattle.lists.specs.Bools.{or_left}
use Rattle.lists.specs.Below.{any_below}
use Rattle.sheet.specs.declared.Counts.{Counts}
use Rattle.file_read.specs.Reading.{sheet_of}
use Rattle.file_read.specs.Records.{many_is}
use Rattle.file_accept.specs.declared.Accepted.{Accepted}
use Rattle.file_accept.specs.Accept.{Taken, taken}
use Rattle.layer_instances.specs.Records.{records_in, is_stranger}
use Rattle.plan_sheet.specs.Refused.{has_number, test_holds}
use Rattle.plan_sheet.specs.LaidLaws.{lays_refused_in}
use Rattle.layer_plan.specs.Laid.{Made, lays_room, lays_none}
use Rattle.layer_plan.specs.Items.{fit, items_in, fill_over, items_over, over_told, items_refused, items_strange, items_made}
use Rattle.layer_plan.proofs.items.lay_items.Goals as goal
use Rattle.layer_plan.proofs.items.lay_items.Goals.{After-min-n}

pub returns-then-many-records : goal.returns-then-many-records
returns-then-many-records c =
    rw c.too_many.ensures (lays_refused_in _ _ _ (tt {0}) _ (items_over _ _ _ _ c.if-many-records.true) (over_told _ (tt {0})))

pub returns-in_err-a : goal.returns-in_err-a
returns-in_err-a c =
    let p = err_from_is_err_and c.from_residual.result c.from_residual.ensures.1 in
    let e = c.in_err-a.ensures in
    rw (p.1, p.2) (lays_refused_in _ _ _ _ _ (items_refused _ _ _ _ c.if-many-records.false (has_number _ 0 _ _ e)) e)

-- by the sheet's kinds
of_sheet : (f records : List ℕ) (a : Accepted) (b : Bool) → Taken f a → any_below (is_stranger records a.kinds) (records_in records) ≡ b
    → any_below (is_stranger records (sheet_of f).many.kinds) (records_in records) ≡ b
of_sheet f records a b t e = let k = t.kinds_are ∙ ap (λ (m : Counts). m.kinds) (many_is f) in rw k at e

pub returns-in_err-refuse : goal.returns-in_err-refuse
returns-in_err-refuse c =
    let p = err_from_is_err_and c.from_residual-in_err-refuse.result c.from_residual-in_err-refuse.ensures.1 in
    let e = c.in_err-refuse.ensures in
    let t = taken _ _ c.in_ok-a.ensures in
    let h = test_holds c.has_stranger-stranger.result 9 0 (tt {0}) _ e in
    rw (p.1, p.2)
    (lays_refused_in _ _ 9 (tt {0}) _
    (items_strange _ _ _ _ c.if-many-records.false t.sound t.can_read.shape (of_sheet _ _ _ _ t (sym c.has_stranger-stranger.ensures ∙ h)))
    (rw h at e))

-- past the third the items are considered, as many as the call says
known : (c : After-min-n) → any_below (is_stranger c.args.records.now c.in_ok-a.a.kinds) (records_in c.args.records.now) ≡ false
known c = sym c.has_stranger-stranger.ensures ∙ when_none _ 8 (no_refusal _ 0 (tt {0}) (tt {0}) c.in_ok-refuse.ensures)

made : (c : After-min-n) → let a = c.args in
    Made (items_in a.order.now a.records.now a.items.now a.consider)
    (fill_over (sheet_of a.order.now) a.records.now a.items.now c.min-n.result) c.min-n.result
made c =
    let s = c.args in
    let t = taken _ _ c.in_ok-a.ensures in
    rw c.min-n.ensures
    (items_made s.order.now s.records.now s.items.now s.consider c.if-many-records.false t.sound t.can_read.shape
    (of_sheet _ _ _ _ t (known c)))

pub returns-in_err-refuse-2 : goal.returns-in_err-refuse-2
returns-in_err-refuse-2 c =
    let p = err_from_is_err_and c.from_residual-in_err-refuse-2.result c.from_residual-in_err-refuse-2.ensures.1 in
    rw (p.1, p.2) (lays_none _ _ _ _ (made (goal.at.returns-in_err-refuse-2 c).After-min-n) (tt {0}) _ c.in_err-refuse-2.ensures)

pub lay_each-requires : goal.lay_each-requires
lay_each-requires c =
    let g = goal.at.lay_each-requires c in
    let t = taken _ _ c.in_ok-a.ensures in (
      rw c.min-n.ensures
          (fit _ _ _ _ _ t.can_read (ltb-false _ _ (or_left _ _ c.if-many-records.false)) t.kinds_are (known g.After-min-n)),
      room_enough _ _ c.in_ok-refuse-2.ensures,
    )

pub returns : goal.returns
returns c = lays_room _ _ _ _ (made (goal.at.returns c).After-min-n) (tt {0}) (tt {0}) _ _ c.in_ok-refuse-2.ensures c.lay_each.ensures
