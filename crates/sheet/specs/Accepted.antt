-- What is known of a sheet that is not refused.
use Rattle.std.specs.Prelude.{◌≡◌, Bool, false, ℕ, ◌<◌, ◌≤◌, ltb}
use Rattle.std.proofs.Common.{ltb-false}
use Rattle.domain.specs.Bounds.{most_kinds, most_boxes, most_lines, most_unplaced}
use Rattle.lists.specs.Below.{any_below, sum_below}
use Rattle.domain.specs.Refusals.{when, first_below}
use Rattle.lists.specs.Bools.{or_left, or_right}
use Rattle.domain.specs.Laws.{or_else_first, or_else_second, when_none, first_none}
use Rattle.measures.specs.declared.Kind.{Kind}
use Rattle.measures.specs.Faults.{record_fault, measure_fault, kind_fault, container_fault}
use Rattle.sheet.specs.declared.Counts.{Counts}
use Rattle.sheet.specs.declared.Sheet.{Sheet}
use Rattle.sheet.specs.Sheets.{over_count, same_id, kind_at, kind_fault_in, quantity_of, line_at, line_fault, line_fault_in, sheet_refusal}

-- counts within their bounds
pub record Few (m : Counts) : Type 0 where
  pub kinds : m.kinds ≤ most_kinds
  pub lines : m.lines ≤ most_lines
  pub unplaced : m.unplaced ≤ most_unplaced

pub few : (m : Counts) → over_count m ≡ false → Few m
few m h =
    let a = or_left (ltb most_kinds m.kinds) _ h in
    let b = or_right (ltb most_kinds m.kinds) _ h in
    record {
      kinds = ltb-false most_kinds m.kinds a;
      lines = ltb-false most_lines m.lines (or_left (ltb most_lines m.lines) _ b);
      unplaced = ltb-false most_unplaced m.unplaced (or_right (ltb most_lines m.lines) _ b);
    }

-- an accepted kind: its record is right, its measures are in range, and its id is no earlier kind's
pub record Sound (k : Kind) (repeats : Bool) : Type 0 where
  pub record_right : record_fault k ≡ false
  pub measures_right : measure_fault k ≡ false
  pub id_new : repeats ≡ false

pub sound : (k : Kind) (repeats : Bool) → kind_fault k repeats ≡ 0 → Sound k repeats
unfolding kind_fault
sound k repeats h =
    let r = or_else_second (when (record_fault k) 4) _ h in
    record {
      record_right = when_none (record_fault k) 3 (or_else_first (when (record_fault k) 4) _ h);
      measures_right = when_none (measure_fault k) 2 (or_else_first (when (measure_fault k) 3) _ r);
      id_new = when_none repeats 4 (or_else_second (when (measure_fault k) 3) _ r);
    }

-- an accepted sheet
pub record Accepted (s : Sheet) : Type 0 where
  pub few_of : Few s.many
  pub container_right : container_fault s.container ≡ false
  pub kind_sound : (k : ℕ) → k < s.many.kinds → Sound (kind_at s k) (any_below (same_id s.kinds k) k)
  pub boxes_few : sum_below (quantity_of s.kinds) s.many.kinds ≤ most_boxes
  pub line_right : (i : ℕ) → i < s.many.lines → line_fault (line_at s i) ≡ 0

pub accepted : (s : Sheet) → sheet_refusal s ≡ 0 → Accepted s
unfolding sheet_refusal kind_fault_in line_fault_in
accepted s h =
    let h₁ = or_else_second (when (over_count s.many) 2) _ h in
    let h₂ = or_else_second (when (container_fault s.container) 3) _ h₁ in
    let h₃ = or_else_second (first_below (kind_fault_in s.kinds) s.many.kinds) _ h₂ in
    let total = sum_below (quantity_of s.kinds) s.many.kinds in
    record {
      few_of = few s.many (when_none (over_count s.many) 1 (or_else_first (when (over_count s.many) 2) _ h));
      container_right = when_none (container_fault s.container) 2 (or_else_first (when (container_fault s.container) 3) _ h₁);
      kind_sound =
          λ k l.
          sound (kind_at s k) (any_below (same_id s.kinds k) k)
          (first_none (kind_fault_in s.kinds) s.many.kinds k (or_else_first (first_below (kind_fault_in s.kinds) s.many.kinds) _ h₂) l);
      boxes_few = ltb-false most_boxes total (when_none (ltb most_boxes total) 1 (or_else_first (when (ltb most_boxes total) 2) _ h₃));
      line_right = λ i l. first_none (line_fault_in s.lines) s.many.lines i (or_else_second (when (ltb most_boxes total) 2) _ h₃) l;
    }
