-- `reproduces` at work: two boxes of 6×2×4, any way up, into a container of 4×2×6. One fits, in orientation 5, and the other in none; placed again by the
-- orientations that the plan gave them, they make the same plan.
use Rattle.std.specs.Prelude.{◌≡◌, refl, List, [], ◌∷◌, ℕ, zero, suc, ◌+◌, ◌*◌, ◌<◌, get_or, set, replicate}
use Rattle.std.proofs.Common.{sym, le_refl, arith}
use Rattle.std.specs.Int.Count.{count_trailing_zeros}
use Rattle.std.specs.Float.Ieee.{lt, le, add, sub, mul, sum, round, units, odd, size, of_bits, to_bits, of_fields, of_int, span, climb}
use Rattle.floats.specs.Ops.{none}
use Rattle.floats.specs.Whole.{whole}
use Rattle.lists.specs.Below.{any_below, sum_below}
use Rattle.domain.specs.Bounds.{most_kinds, most_lines, most_unplaced}
use Rattle.domain.specs.Refusals.{or_else, first_below}
use Rattle.measures.specs.Orders.{lengths_in}
use Rattle.measures.specs.Faults.{kind_fault, container_fault}
use Rattle.sheet.specs.declared.Sheet.{Sheet}
use Rattle.sheet.specs.Sheets.{blank_kind, blank_line, same_id, kind_fault_in, quantity_of, boxes_in, line_fault_in, sheet_refusal}
use Rattle.layer_cursor.specs.Spot.{new_row, new_layer, spot_of}
use Rattle.layer_state.specs.Stand.{settled}
use Rattle.layer_state.specs.Best.{better, best_of, place_best_of}
use Rattle.layer_fill.specs.Fill.{no_lines, took}
use Rattle.plan_boxes.specs.Turns.{next_turn, turn_of}
use Rattle.layer_plan.specs.Run.{offered, run_from}
use Rattle.layer_plan.specs.Offers.{best_offer}
use Rattle.layer_plan.specs.Fills.{layer_fill_of, place_items_of}
use Rattle.layer_instances.specs.Instances.{records_after}
use Rattle.layer_seeds.specs.Seeds.{seed_of}
use Rattle.layer_laws.specs.Reproduce.{seed_in}
use Rattle.layer_laws.specs.Seeded.{seeds_for, AreItems, seeds_say, reproduces}

abbrev pub order : Sheet
order =
    record {
      many = record { kinds = 1; lines = 0; unplaced = 0 };
      container = record { size = whole 4 ∷ whole 2 ∷ whole 6 ∷ []; margin = none; spacing = none; limit = none };
      kinds =
          set (replicate most_kinds blank_kind) 0
          (record { id = 7; quantity = 2; size = whole 6 ∷ whole 2 ∷ whole 4 ∷ []; mass = none; rule = 0; massed = 0; filler = 0 });
      lines = replicate most_lines blank_line;
      unplaced = replicate most_unplaced 0;
    }

-- record 0 in orientation 5, record 1 in orientation 0
abbrev pub items : List ℕ
items = 0 ∷ 5 ∷ 1 ∷ 0 ∷ []

accepts : sheet_refusal order ≡ 0
unfolding sheet_refusal or_else first_below kind_fault_in same_id kind_fault container_fault any_below sum_below quantity_of line_fault_in lt le round units odd
    size of_bits to_bits of_fields of_int span climb count_trailing_zeros
accepts = refl

two : boxes_in order.kinds 1 ≡ 2
unfolding boxes_in sum_below quantity_of
two = refl

-- what the fill says of each box
seeds_are : (seed_in order 2 0 ≡ 5) × (seed_in order 2 1 ≡ 0)
unfolding seed_of run_from offered best_offer turn_of next_turn took no_lines place_best_of best_of better settled spot_of new_row new_layer lengths_in
    quantity_of lt le add sub mul sum round units odd size of_bits to_bits of_fields of_int span climb count_trailing_zeros
seeds_are = (refl, refl)

are : AreItems order (seeds_for order 2 (replicate 6 0) (replicate 2 0)) items
are = record { many = sym two; place_at = place; turn_at = turn }
  where
    place : (j : ℕ) → j < boxes_in order.kinds 1 → get_or items (j * 2) 0 ≡ j
    place zero l = refl
    place (suc zero) l = refl
    place (suc (suc j)) l = let e = two in absurd (omega arith)

    turn : (j : ℕ) → j < boxes_in order.kinds 1 → get_or items (j * 2 + 1) 0 ≡ get_or (seeds_for order 2 (replicate 6 0) (replicate 2 0)) j 0
    turn zero l = rw (seeds_say order 2 (replicate 6 0) (replicate 2 0) accepts (rw two) (rw two (le_refl 2)) 0 l, two) (rw seeds_are.0)
    turn (suc zero) l = rw (seeds_say order 2 (replicate 6 0) (replicate 2 0) accepts (rw two) (rw two (le_refl 2)) 1 l, two) (rw seeds_are.1)
    turn (suc (suc j)) l = let e = two in absurd (omega arith)

pub worked : place_items_of order (records_after order (replicate 6 0)) items 2 ≡ layer_fill_of order 2
worked = reproduces order 2 (replicate 6 0) (replicate 2 0) accepts (rw two) (rw two (le_refl 2)) items are
