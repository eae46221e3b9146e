-- The boxes of an accepted order: each kind has one, and there are as many as the kinds' quantities come to.
use Rattle.std.specs.Prelude.{◌≡◌, ℕ, ◌<◌, eqb, get_or}
use Rattle.std.proofs.Common.{arith, le-ltb}
use Rattle.std.proofs.lemmas.Bool.{eqb-false}
use Rattle.domain.specs.Bounds.{most_kinds}
use Rattle.lists.specs.Below.{sum_below}
use Rattle.lists.specs.Bools.{or_left}
use Rattle.sheet.specs.declared.Sheet.{Sheet}
use Rattle.sheet.specs.Sheets.{no_kind, quantity_of, boxes_in}
use Rattle.sheet.specs.Accepted.{Accepted}

pub some_boxes : (order : Sheet) → Accepted order → (k : ℕ) → k < order.many.kinds → 0 < quantity_of order.kinds k
unfolding quantity_of
some_boxes order a k l =
    let q = (get_or order.kinds k no_kind).quantity in
    omega (arith, eqb-false q 0 (or_left (eqb q 0) _ (a.kind_sound k l).record_right))

pub boxes_are : (order : Sheet) → Accepted order → boxes_in order.kinds order.many.kinds ≡ sum_below (quantity_of order.kinds) order.many.kinds
unfolding boxes_in
boxes_are order a = rw (le-ltb most_kinds order.many.kinds a.few_of.kinds)
