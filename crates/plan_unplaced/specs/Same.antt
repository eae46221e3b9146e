-- The unplaced list goes by the ids and instances of the first n lines alone: two lists that agree on these leave the same.
use Rattle.std.specs.Prelude.{◌≡◌, List, ℕ, ◌<◌, ◌≤◌, length, get_or}
use Rattle.std.proofs.Common.{sym, ap, ◌∙◌}
use Rattle.lists.specs.Below.{any_same, sum_same}
use Rattle.lists.specs.Table.{table_same}
use Rattle.domain.specs.Bounds.{most_kinds}
use Rattle.std.proofs.Math.Bool.{false}
use Rattle.measures.specs.declared.Kind.{Kind}
use Rattle.sheet.specs.declared.Line.{Line}
use Rattle.sheet.specs.Sheets.{no_kind, no_line}
use Rattle.plan_unplaced.specs.Short.{id_at, instance_at, places, is_placed, one_placed, distinct_placed, is_short}
use Rattle.domain.specs.Refusals.{when}
use Rattle.domain.specs.Refusal.{answer_of}
use Rattle.plan_unplaced.specs.declared.Left.{Left}
use Rattle.plan_unplaced.specs.Left.{short_kind, over_bound, left_by, left_of, left_long}

module _ (a b : List Line) (n : ℕ) (h : (j : ℕ) → j < n → id_at a j ≡ id_at b j) (k : (j : ℕ) → j < n → instance_at a j ≡ instance_at b j) where
  placed_same : (id i : ℕ) → is_placed a n id i ≡ is_placed b n id i
  unfolding is_placed places
  placed_same id i = any_same (places a id i) (places b id i) n (λ j l. rw (h j l, k j l))

  short_same : (kinds : List Kind) (m : ℕ) → short_kind kinds a n m ≡ short_kind kinds b n m
  unfolding short_kind is_short distinct_placed one_placed
  short_same kinds m =
      let id = (get_or kinds m no_kind).id in
      rw (sum_same (one_placed a n id) (one_placed b n id) (get_or kinds m no_kind).quantity (λ i _. rw (placed_same id i)))

  -- the ids that are left
  pub left_by_same : (kinds : List Kind) (m : ℕ) → left_by kinds m a n ≡ left_by kinds m b n
  unfolding left_by
  left_by_same kinds m = rw (table_same false most_kinds (short_kind kinds a n) (short_kind kinds b n) m (λ j _. short_same kinds j))

  -- and what is answered, where both are as long
  pub left_same : (kinds : List Kind) (m : ℕ) → n ≤ length a → n ≤ length b → left_of kinds m a n ≡ left_of kinds m b n
  left_same kinds m p q =
      left_long kinds m a n p
      ∙ ap (λ (l : Left). answer_of (when (over_bound m n) 2) l) (left_by_same kinds m)
      ∙ sym (left_long kinds m b n q)

-- so do lists of the same lines
pub same_lines : (a b : List Line) (n : ℕ) → ((j : ℕ) → j < n → get_or a j no_line ≡ get_or b j no_line) → (kinds : List Kind) (m : ℕ)
    → left_by kinds m a n ≡ left_by kinds m b n
same_lines a b n h = left_by_same a b n (λ j l. ap (λ (v : Line). v.id) (h j l)) (λ j l. ap (λ (v : Line). v.instance) (h j l))
