-- RULES: Second placer: items. `Reproduce` for the calls themselves: an order's fill by layers, its instance list, the orientations that the planned
-- sheet gives to that list, and the list placed in its own order and those orientations, with the same number considered. The plan is the fill's,
-- bit for bit. With another number considered it need not be: boxes that the fill did not come to are then placed unrotated.
use Rattle.std.specs.Prelude.{◌≡◌, false, List, ℕ, ◌+◌, ◌*◌, ◌/◌, ◌<◌, ◌≤◌, length, get_or}
use Rattle.std.proofs.Math.Path.{refl, sym}
use Rattle.std.proofs.Common.{◌∙◌, ap, le_refl, arith}
use Rattle.std.proofs.Math.Nat.{min-le_right}
use borrow.Author.Tests.{eq-eqb, lt-ltb, le-ltb, lt-leb}
use Rattle.domain.specs.Bounds.{most_items, most_instances}
use Rattle.lists.specs.Below.{any_below, none_any}
use Rattle.domain.specs.Refusals.{or_else}
use Rattle.measures.specs.Orders.{share_of}
use Rattle.sheet.specs.declared.Sheet.{Sheet}
use Rattle.sheet.specs.Sheets.{no_kind, sheet_refusal}
use Rattle.sheet.specs.Accepted.{accepted}
use Rattle.layer_fill.specs.declared.LayerFill.{LayerFill}
use Rattle.layer_fill.specs.Fill.{empty}
use Rattle.plan_boxes.specs.Turns.{turn_of, Right, turn_right}
use Rattle.plan_sheet.specs.Planned.{planned_sheet}
use Rattle.plan_laws.proofs.Accepted.{layers_accepted}
use Rattle.lists.specs.Table.{filled_at}
use Rattle.lists.specs.Rows.{wrote, wrote_at, wrote_length}
use Rattle.layer_instances.specs.Records.{records_in, is_stranger}
use Rattle.plan_boxes.specs.Orders.{some_boxes, boxes_are}
use Rattle.layer_plan.specs.Offers.{item_count, item_offer}
use Rattle.layer_plan.specs.Run.{run_same}
use Rattle.layer_plan.specs.Fills.{plan_from, layer_fill_of, items_refusal, place_items_of}
use Rattle.layer_instances.specs.Instances.{total, record_words, build_refusal, records_after, three}
use Rattle.layer_seeds.specs.Seeds.{seed_of, seed_at, seed_refusal, seeds_after}
use Rattle.layer_laws.specs.Made.{number, fill_plan, fill_made}
use Rattle.layer_laws.specs.Reproduce.{kind_of, seed_in, seeded_offer, run_again}

-- ---- the instance list
pub record IsList (order : Sheet) (records : List ℕ) : Type 0 where
  pub many : records_in records ≡ total order
  pub kind_at_lem : (j : ℕ) → j < total order → get_or records (j * 3) 0 ≡ (turn_of order.kinds j).kind
  pub instance_at : (j : ℕ) → j < total order → get_or records (j * 3 + 1) 0 ≡ (turn_of order.kinds j).instance
  pub count_at : (j : ℕ) → j < total order → get_or records (j * 3 + 2) 0 ≡ length (share_of (kind_of order.kinds j).rule)

wrote_list : (order : Sheet) (o : List ℕ) → length o ≡ total order * 3 → IsList order (wrote (record_words order.kinds) 3 (total order) o)
unfolding record_words
wrote_list order o long =
    let n = total order in
    let l = wrote_length (record_words order.kinds) 3 (three order.kinds) n o (omega arith) in
    record {
      many = omega arith;
      kind_at_lem =
          λ j h.
          let e : j * 3 + 0 ≡ j * 3 = omega arith in
          rw e at (wrote_at (record_words order.kinds) 3 (three order.kinds) n o j 0 h (omega arith));
      instance_at = λ j h. wrote_at (record_words order.kinds) 3 (three order.kinds) n o j 1 h (omega arith);
      count_at = λ j h. wrote_at (record_words order.kinds) 3 (three order.kinds) n o j 2 h (omega arith);
    }

-- what `build_instances` writes into as many words as it needs
pub built_list : (order : Sheet) (o : List ℕ) → build_refusal order (total order) (length o) ≡ 0 → length o ≡ total order * 3
    → IsList order (records_after order o)
unfolding records_after
built_list order o h long = rw (eq-eqb (build_refusal order (total order) (length o)) 0 h) (wrote_list order o long)

no_build_refusal : (order : Sheet) (room : ℕ) → sheet_refusal order ≡ 0 → room ≡ total order * 3 → build_refusal order (total order) room ≡ 0
unfolding build_refusal or_else
no_build_refusal order room accept long = rw (accept, le-ltb (room / 3) (total order) (omega arith))

-- ---- the orientations
seed_at_lem : (s : Sheet) (records e : List ℕ) (j : ℕ) → seed_refusal s records (length e) ≡ 0 → records_in records ≤ length e → j < records_in records
    → get_or (seeds_after s records e) j 0
    ≡ seed_of s.lines s.many.lines (get_or s.kinds (get_or records (j * 3) 0) no_kind).id (get_or records (j * 3 + 1) 0)
unfolding seeds_after seed_at
seed_at_lem s records e j h room l = rw (eq-eqb (seed_refusal s records (length e)) 0 h) (filled_at e (seed_at s records) (records_in records) j 0 room l)

-- ---- nothing is refused
module _ (order : Sheet) (accept : sheet_refusal order ≡ 0) (records : List ℕ) (list : IsList order records) where
  no_stranger : (j : ℕ) → j < records_in records → is_stranger records order.many.kinds j ≡ false
  unfolding is_stranger
  no_stranger j l =
      let a = accepted order accept in
      let m = list.many in
      let e = boxes_are order a in
      let r : Right order.kinds order.many.kinds j (turn_of order.kinds j) =
      turn_right order.kinds order.many.kinds (some_boxes order a) j (omega arith) in
      lt-leb order.many.kinds (get_or records (j * 3) 0) (rw (list.kind_at_lem j (omega arith)) r.kind_is)

  -- no more boxes than there can be records
  list_few : records_in records ≤ most_instances
  list_few =
      let m = list.many in
      let a = accepted order accept in
      let e = boxes_are order a in
      let f = a.boxes_few in
      omega arith

  none_strange : any_below (is_stranger records order.many.kinds) (records_in records) ≡ false
  none_strange = none_any (is_stranger records order.many.kinds) (records_in records) no_stranger

  no_refusal : (items : List ℕ) → item_count items ≡ total order → items_refusal order records items ≡ 0
  unfolding items_refusal or_else
  no_refusal items few =
      let m = list.many in
      let f = list_few in
      rw (le-ltb most_items (item_count items) (omega arith), le-ltb most_instances (records_in records) list_few, accept, none_strange)

  -- a sheet of the same kinds that is accepted, and a cell for each record
  no_seed_refusal : (s : Sheet) (room : ℕ) → sheet_refusal s ≡ 0 → s.many.kinds ≡ order.many.kinds → total order ≤ room
      → seed_refusal s records room ≡ 0
  unfolding seed_refusal or_else
  no_seed_refusal s room z e l =
      let m = list.many in
      rw (le-ltb most_instances (records_in records) list_few, z, e, none_strange, le-ltb room (records_in records) (omega arith))

-- ---- the items
-- item j names record j, and the orientation that the seeds say of it
pub record AreItems (order : Sheet) (seeds items : List ℕ) : Type 0 where
  pub many : item_count items ≡ total order
  pub place_at : (j : ℕ) → j < total order → get_or items (j * 2) 0 ≡ j
  pub turn_at : (j : ℕ) → j < total order → get_or items (j * 2 + 1) 0 ≡ get_or seeds j 0

module _ (order : Sheet) (accept : sheet_refusal order ≡ 0) (consider : ℕ) (records : List ℕ) (list : IsList order records) where
  -- what the seeds say of box j is what the fill says of it
  seed_is : (e : List ℕ) (j : ℕ) → seed_refusal (planned_sheet order (layer_fill_of order consider)) records (length e) ≡ 0
      → total order ≤ length e → j < total order
      → get_or (seeds_after (planned_sheet order (layer_fill_of order consider)) records e) j 0 ≡ seed_in order (number order consider) j
  unfolding planned_sheet
  seed_is e j h room l =
      let made = fill_made order consider accept in
      let m = list.many in
      seed_at_lem (planned_sheet order (layer_fill_of order consider)) records e j h (omega arith) (omega arith)
      ∙ rw (list.kind_at_lem j l, list.instance_at j l, made.lines_are, made.placed_are)

  offer_is : (e items : List ℕ) → seed_refusal (planned_sheet order (layer_fill_of order consider)) records (length e) ≡ 0 → total order ≤ length e
      → AreItems order (seeds_after (planned_sheet order (layer_fill_of order consider)) records e) items
      → (j : ℕ) → j < total order → item_offer records items j ≡ seeded_offer order (number order consider) j
  unfolding item_offer seeded_offer
  offer_is e items h room are j l =
      let m = list.many in
      rw (
        are.place_at j l,
        are.turn_at j l,
        seed_is e j h room l,
        lt-ltb j (records_in records) (omega arith),
        list.kind_at_lem j l,
        list.instance_at j l,
        list.count_at j l,
      )

  pub placed_again : (e items : List ℕ) → seed_refusal (planned_sheet order (layer_fill_of order consider)) records (length e) ≡ 0 → total order ≤ length e
      → AreItems order (seeds_after (planned_sheet order (layer_fill_of order consider)) records e) items
      → place_items_of order records items consider ≡ layer_fill_of order consider
  unfolding place_items_of
  placed_again e items h room are =
      let a = accepted order accept in
      let l = min-le_right consider (total order) in
      let b = boxes_are order a in
      rw (eq-eqb (items_refusal order records items) 0 (no_refusal order accept records list items are.many), are.many)
      (ap (λ (f : LayerFill). plan_from order.kinds order.many.kinds f (number order consider))
      (run_same (empty order.container) order.kinds (item_offer records items) (seeded_offer order (number order consider))
      (number order consider) (λ j k. offer_is e items h room are j (omega arith))
      ∙ run_again order a (number order consider) (omega arith) (number order consider) (le_refl (number order consider)))
      ∙ sym (fill_plan order consider accept))

-- ---- the calls one after the other

-- the order's instances in a lent list of three words for each box
abbrev pub list_for : Sheet → List ℕ → List ℕ
list_for order o = records_after order o

-- the orientations that the planned sheet gives to them
abbrev pub seeds_for : Sheet → ℕ → List ℕ → List ℕ → List ℕ
seeds_for order consider o e = seeds_after (planned_sheet order (layer_fill_of order consider)) (records_after order o) e

module _ (order : Sheet) (consider : ℕ) (o e : List ℕ) (accept : sheet_refusal order ≡ 0) (long : length o ≡ total order * 3)
    (room : total order ≤ length e) where
  is_list : IsList order (list_for order o)
  is_list = built_list order o (no_build_refusal order (length o) accept long) long

  none_refused : seed_refusal (planned_sheet order (layer_fill_of order consider)) (list_for order o) (length e) ≡ 0
  unfolding planned_sheet
  none_refused =
      no_seed_refusal order accept (list_for order o) is_list (planned_sheet order (layer_fill_of order consider)) (length e)
      (layers_accepted order consider accept).sheet_accepted refl room

  -- the seed of box j is what the fill says of it
  pub seeds_say : (j : ℕ) → j < total order → get_or (seeds_for order consider o e) j 0 ≡ seed_in order (number order consider) j
  seeds_say j l = seed_is order accept consider (list_for order o) is_list e j none_refused room l

  -- Every accepted order, every number considered: three lent words and a lent cell for each box, and items that name the boxes in turn with their
  -- orientations. Nothing is refused on the way.
  pub reproduces : (items : List ℕ) → AreItems order (seeds_for order consider o e) items
      → place_items_of order (list_for order o) items consider ≡ layer_fill_of order consider
  reproduces items are = placed_again order accept consider (list_for order o) is_list e items none_refused room are
