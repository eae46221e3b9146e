-- An accepted order with other lines and unplaced ids in the place of its own: all that can be refused of it then is a line.
use Rattle.std.specs.Prelude.{◌≡◌, List, ℕ, ◌≤◌, ltb}
use Rattle.std.proofs.Common.{le-ltb}
use Rattle.domain.specs.Bounds.{most_kinds, most_boxes, most_lines, most_unplaced}
use Rattle.lists.specs.Below.{sum_below}
use Rattle.domain.specs.Refusals.{when, or_else, first_below}
use Rattle.domain.specs.Laws.{or_else_first, or_else_second, when_none}
use Rattle.measures.specs.Faults.{container_fault}
use Rattle.sheet.specs.declared.Line.{Line}
use Rattle.sheet.specs.declared.Sheet.{Sheet}
use Rattle.sheet.specs.Sheets.{over_count, kind_fault_in, quantity_of, line_fault_in, sheet_refusal}
use Rattle.sheet.specs.Accepted.{Few, accepted}

-- with n lines and u ids
abbrev pub anew : Sheet → List Line → ℕ → List ℕ → ℕ → Sheet
anew order lines n ids u =
    record {
      many = record { kinds = order.many.kinds; lines = n; unplaced = u };
      container = order.container;
      kinds = order.kinds;
      lines = lines;
      unplaced = ids;
    }

pub anew_refusal : (order : Sheet) (lines : List Line) (n : ℕ) (ids : List ℕ) (u : ℕ) → sheet_refusal order ≡ 0 → n ≤ most_lines → u ≤ most_unplaced
    → sheet_refusal (anew order lines n ids u) ≡ first_below (line_fault_in lines) n
unfolding sheet_refusal or_else
anew_refusal order lines n ids u h few_lines few_ids =
    let total = sum_below (quantity_of order.kinds) order.many.kinds in
    let h₁ = or_else_second (when (over_count order.many) 2) _ h in
    let h₂ = or_else_second (when (container_fault order.container) 3) _ h₁ in
    let h₃ = or_else_second (first_below (kind_fault_in order.kinds) order.many.kinds) _ h₂ in
    let f : Few order.many = (accepted order h).few_of in
    rw (
      le-ltb most_kinds order.many.kinds f.kinds,
      le-ltb most_lines n few_lines,
      le-ltb most_unplaced u few_ids,
      when_none (container_fault order.container) 2 (or_else_first (when (container_fault order.container) 3) _ h₁),
      or_else_first (first_below (kind_fault_in order.kinds) order.many.kinds) _ h₂,
      when_none (ltb most_boxes total) 1 (or_else_first (when (ltb most_boxes total) 2) _ h₃),
    )
