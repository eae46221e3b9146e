-- Laws on the ids of a list of kinds: gathered once, they tell whether an id repeats an earlier kind's.
use Rattle.std.specs.Prelude.{◌≡◌, List, ℕ, ◌<◌, ◌≤◌, get_or}
use Rattle.std.proofs.Common.{arith, le-leb}
use Rattle.domain.specs.Bounds.{most_kinds}
use Rattle.lists.specs.Below.{any_below, is_at, any_same}
use Rattle.lists.specs.Table.{table_at}
use Rattle.measures.specs.declared.Kind.{Kind}
use Rattle.measures.specs.Faults.{kind_fault}
use Rattle.sheet.specs.Sheets.{no_kind, same_id, among, ids_below, kind_fault_in}

pub id_at : (kinds : List Kind) (n j : ℕ) → n ≤ most_kinds → j < n → get_or (ids_below kinds n) j 0 ≡ (get_or kinds j no_kind).id
id_at kinds n j few l = table_at 0 most_kinds (λ k. (get_or kinds k no_kind).id) n j 0 few l

pub repeats_same : (kinds : List Kind) (n k : ℕ) → n ≤ most_kinds → k ≤ n
    → among (ids_below kinds n) (get_or kinds k no_kind).id k ≡ any_below (same_id kinds k) k
unfolding is_at same_id among
repeats_same kinds n k few h =
    rw (le-leb k most_kinds (omega arith))
    (any_same (is_at (ids_below kinds n) (get_or kinds k no_kind).id) (same_id kinds k) k (λ j l. rw (id_at kinds n j few (omega arith))))

-- what a kind is refused for, tested against the ids before it
pub tested_as : (kinds : List Kind) (ids : List ℕ) (k : ℕ) → ids ≡ ids_below kinds k → k ≤ most_kinds
    → kind_fault (get_or kinds k no_kind) (among ids (get_or kinds k no_kind).id k) ≡ kind_fault_in kinds k
unfolding kind_fault_in
tested_as kinds ids k e few = rw (e, repeats_same kinds k k few (omega arith))
