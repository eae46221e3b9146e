-- Refusal numbers: 0 is none, and of several that hold the first tested counts.
use Rattle.std.specs.Prelude.{ℕ, zero, suc, Bool, true, false}

-- RULES: Refusals. The numbers, each with where its condition is defined:
--   1 the load file's shape (file_read: right_shape)
-- 2 a count or the total quantity (sheet: over_count, sheet_refusal; point_state: over_counts; layer_fill: place_refusal; sheet_kinds: survey_of;
-- plan_unplaced: over_bound; plan_sheet: plan_refusal; point_place: fill_refusal; layer_instances: seed_refusal; layer_plan: items_refusal; layer_fitness:
-- fitness_refusal)
--   3 a measure or a position (measures: measure_fault, container_fault; sheet: line_fault; layer_fitness: fitness_refusal; layer_lent: asked_fault)
--   4 a kind record (measures: record_fault)
--   5 a repeated id (sheet: same_id)
--   6 too few lent slots (file_write: written_of; plan_sheet: hand_refusal, fitting; check_packing: check_refusal; layer_instances: build_refusal,
-- seed_refusal)
--   7 a full placer (point_place: refusal_of; layer_fill: place_refusal)
--   8 a length that isn't whole, for the fill per thousand (fill_thousand: fill_refusal)
--   9 a kind index past the order's kinds, in a given instance list (layer_plan: items_refusal; point_place: fill_refusal)
-- and their order: file_read: refusal_of, sheet: sheet_refusal, measures: kind_fault, and each call's own refusal.

-- the refusal n where the test holds
abbrev pub when : Bool → ℕ → ℕ
when true n = n
when false n = 0

-- the first, or where that is none the second
unfoldable pub or_else : ℕ → ℕ → ℕ
or_else zero y = y
or_else (suc x) y = suc x

-- the first of g 0, g 1, .. below n
unfoldable pub first_below : (ℕ → ℕ) → ℕ → ℕ
unfolding or_else
first_below g zero = 0
first_below g (suc n) = or_else (first_below g n) (g n)
