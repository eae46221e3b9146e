-- What a run offers to the fill, turn by turn: a whole order's boxes, or given items.
use Rattle.std.specs.Prelude.{cond, List, ℕ, ◌+◌, ◌*◌, ◌/◌, ◌%◌, ltb, length, get_or, max}
use Rattle.measures.specs.declared.Kind.{Kind}
use Rattle.plan_boxes.specs.declared.Instance.{Instance}
use Rattle.plan_boxes.specs.Turns.{turn_of}
use Rattle.layer_instances.specs.Records.{records_in}

-- how a box may be turned: it is not offered at all, in one orientation, or in its best one
pub data Way : Type 0 where
  skip : Way
  turned : ℕ → Way
  best : Way

-- a kind's place in the order, an instance of it, and the way to turn it
pub record Offer : Type 0 where
  pub kind : ℕ
  pub instance : ℕ
  pub way : Way

abbrev pub no_offer : Offer
no_offer = record { kind = 0; instance = 0; way = skip }

-- a box in its best orientation
abbrev pub as_best : Instance → Offer
as_best u = record { kind = u.kind; instance = u.instance; way = best }

-- `layer_fill_in_order`: every instance in request order, each in its best orientation
unfoldable pub best_offer : List Kind → ℕ → Offer
best_offer kinds t = as_best (turn_of kinds t)

-- ---- items: two words each, a place in the records and an orientation. Words behind the last whole item are not read.
abbrev pub item_count : List ℕ → ℕ
item_count items = length items / 2

-- the instance of record p, its orientation the item's index modulo the record's own count, which counts as 1 where it is 0
abbrev pub record_offer : List ℕ → ℕ → ℕ → Offer
record_offer records p o =
    record { kind = get_or records (p * 3) 0; instance = get_or records (p * 3 + 1) 0; way = turned (o % max (get_or records (p * 3 + 2) 0) 1) }

-- an item whose place is past the instance list is skipped. RULES: Second placer: items.
unfoldable pub item_offer : List ℕ → List ℕ → ℕ → Offer
item_offer records items j =
    cond (ltb (get_or items (j * 2) 0) (records_in records)) (record_offer records (get_or items (j * 2) 0) (get_or items (j * 2 + 1) 0)) no_offer
