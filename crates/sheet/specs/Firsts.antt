-- The first n kinds or lines of a longer list give what the list gives below n.
use Rattle.std.specs.Prelude.{◌≡◌, List, ℕ, ◌<◌, ◌≤◌, min, length, get_or, take}
use Rattle.std.proofs.Common.{ap, arith}
use Rattle.std.proofs.lemmas.List.{get_or-take, length-take}
use Rattle.lists.specs.Below.{any_same, sum_below, sum_same}
use Rattle.domain.specs.Refusals.{first_below}
use Rattle.domain.specs.Laws.{first_same}
use Rattle.measures.specs.declared.Kind.{Kind}
use Rattle.sheet.specs.declared.Line.{Line}
use Rattle.sheet.specs.Sheets.{no_kind, no_line, same_id, kind_fault_in, quantity_of, line_fault, line_fault_in}

min_first : (n m : ℕ) → n ≤ m → min n m ≡ n
min_first n m l = omega arith

module _ (kinds : List Kind) (n : ℕ) where
  kind_first : (k : ℕ) → k < n → get_or (take n kinds) k no_kind ≡ get_or kinds k no_kind
  kind_first k l = get_or-take n kinds k no_kind l

  fault_first : (k : ℕ) → k < n → kind_fault_in (take n kinds) k ≡ kind_fault_in kinds k
  unfolding kind_fault_in same_id
  fault_first k l =
      rw (any_same (same_id (take n kinds) k) (same_id kinds k) k (λ j m. rw (kind_first j (omega arith), kind_first k l)), kind_first k l)

  pub first_kinds : n ≤ length kinds → first_below (kind_fault_in (take n kinds)) (length (take n kinds)) ≡ first_below (kind_fault_in kinds) n
  first_kinds few =
      rw (length-take n kinds, min_first n (length kinds) few)
      (first_same (kind_fault_in (take n kinds)) (kind_fault_in kinds) n fault_first)

  pub first_quantities : n ≤ length kinds → sum_below (quantity_of (take n kinds)) (length (take n kinds)) ≡ sum_below (quantity_of kinds) n
  unfolding quantity_of
  first_quantities few =
      rw (length-take n kinds, min_first n (length kinds) few)
      (sum_same (quantity_of (take n kinds)) (quantity_of kinds) n (λ k l. ap (λ (u : Kind). u.quantity) (kind_first k l)))

module _ (lines : List Line) (n : ℕ) where
  line_first : (i : ℕ) → i < n → line_fault_in (take n lines) i ≡ line_fault_in lines i
  unfolding line_fault_in
  line_first i l = ap line_fault (get_or-take n lines i no_line l)

  pub first_lines : n ≤ length lines → first_below (line_fault_in (take n lines)) (length (take n lines)) ≡ first_below (line_fault_in lines) n
  first_lines few =
      rw (length-take n lines, min_first n (length lines) few)
      (first_same (line_fault_in (take n lines)) (line_fault_in lines) n line_first)
