-- Lines by blocks, a span for each: what a far span tells of the lines of its block, and what settles a pair without its root.
use Rattle.std.specs.Prelude.{◌≡◌, Bool, true, cond, List, ℕ, ◌+◌, ◌*◌, ◌/◌, ◌<◌, ◌≤◌, length, Float}
use Rattle.floats.specs.Ops.{none, ◌⊘◌}
use Rattle.domain.specs.Bounds.{most_lines}
use Rattle.check_pair.specs.Pair.{gaps}
use Rattle.check_pair.specs.Close.{Fair}
use Rattle.check_pair.specs.Shortcut.{some_gap, limit_of}
use Rattle.check_pair.specs.Span.{spans}
use Rattle.check_pair.specs.declared.Extent.{Extent}
use Rattle.check_words.specs.Boxes.{box_at}
use Rattle.check_list.specs.declared.Rule.{Rule}
use Rattle.check_list.specs.declared.pair.Quick.{Quick}

-- so many lines stand in a block
abbrev pub block : ℕ
block = 16

-- the end of the block that line j is in, or n
pub record BlockEnd (j n r : ℕ) : Type 0 where
  pub after : j < r
  pub within : r ≤ n
  pub inside : r ≤ (j / block + 1) * block
  pub whole : r < n → r ≡ (j / block + 1) * block

-- each of the first n lines is within the span of its block
pub record Spanned (boxes : List Extent) (n : ℕ) (rows : List Extent) : Type 0 where
  pub each : (j : ℕ) → j < n → spans (box_at rows (j / block)) (box_at boxes j) ≡ true

-- what pairs that are to be so far apart are settled by; without good spans no gap is at least `reach`
pub record Settles (asked t : Float) (spanned : Bool) (q : Quick) : Type 0 where
  pub limit_is : q.limit ≡ limit_of asked t
  pub reach_is : q.reach ≡ cond spanned (limit_of asked t) (none ⊘ none)
  pub fair : Fair q.close asked t

-- the columns are long enough, and a span that is far tells that each line of its block is
pub record Tells (r : Rule) (which : List ℕ) (boxes rows : List Extent) (q : Quick) : Type 0 where
  pub few : r.lines ≤ most_lines
  pub which_long : r.lines ≤ length which
  pub boxes_long : r.lines ≤ length boxes
  pub rows_long : most_lines / block ≤ length rows
  pub limit_is : q.limit ≡ limit_of r.case.spacing r.slack
  pub fair : Fair q.close r.case.spacing r.slack
  pub tells :
      (i j : ℕ) → i < r.lines → j < r.lines → some_gap q.reach (gaps (box_at boxes i) (box_at rows (j / block))) ≡ true
      → some_gap q.limit (gaps (box_at boxes i) (box_at boxes j)) ≡ true
