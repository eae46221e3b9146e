-- RULES: Second placer: items. The packing fitness (packing_utils.rs, `packing_fitness`), in the Rust's operation order. Its fill is a utilization.
use Rattle.std.specs.Prelude.{◌≡◌, refl, false, not, ◌||◌, ℕ, ◌≤◌, ltb, max, Result, Float}
use Rattle.std.proofs.Common.{ltb-false}
use Rattle.std.specs.Float.{binary64}
use Rattle.std.specs.Float.Ieee.{of_bits, round}
use Rattle.floats.specs.Ops.{◌⊕◌, ◌⊗◌, ◌⊘◌}
use Rattle.floats.specs.Whole.{whole}
use Rattle.domain.specs.Bounds.{most_boxes}
use Rattle.domain.specs.Ranges.{is_fill}
use Rattle.domain.specs.declared.Refusal.{Refusal}
use Rattle.domain.specs.Refusals.{when, or_else}
use Rattle.domain.specs.Refusal.{answer_of}
use Rattle.lists.specs.Bools.{or_left, or_right}
use Rattle.domain.specs.Laws.{or_else_first, when_none}

-- the weights of the boxes and of the fill: 100 and 10
abbrev pub hundred : Float
hundred = of_bits binary64 0x4059000000000000

abbrev pub ten : Float
ten = of_bits binary64 0x4024000000000000

pub hundred_is : hundred ≡ round binary64 false 100 1
unfolding of_bits round
hundred_is = refl

pub ten_is : ten ≡ round binary64 false 10 1
unfolding of_bits round
ten_is = refl

-- (placed / max(total, 1)) · 100 + fill · 10
abbrev pub fitness_of : ℕ → ℕ → Float → Float
fitness_of placed total fill = whole placed ⊘ whole (max total 1) ⊗ hundred ⊕ fill ⊗ ten

-- 2 for a count of more boxes than an order may have, then 3 for a fill out of its range. RULES: Refusals.
unfoldable pub fitness_refusal : ℕ → ℕ → Float → ℕ
fitness_refusal placed total fill = or_else (when (ltb most_boxes placed || ltb most_boxes total) 2) (when (not (is_fill fill)) 3)

unfoldable pub rated_of : ℕ → ℕ → Float → Result Float Refusal
rated_of placed total fill = answer_of (fitness_refusal placed total fill) (fitness_of placed total fill)

-- ---- counts that are not refused
pub record Few (placed total : ℕ) : Type 0 where
  pub placed_few : placed ≤ most_boxes
  pub total_few : total ≤ most_boxes

pub few_counts : (placed total : ℕ) (fill : Float) → fitness_refusal placed total fill ≡ 0 → Few placed total
unfolding fitness_refusal
few_counts placed total fill h =
    let over = ltb most_boxes placed || ltb most_boxes total in
    let o = when_none over 1 (or_else_first (when over 2) _ h) in
    record {
      placed_few = ltb-false most_boxes placed (or_left (ltb most_boxes placed) (ltb most_boxes total) o);
      total_few = ltb-false most_boxes total (or_right (ltb most_boxes placed) (ltb most_boxes total) o);
    }
