-- Two sheets that hold the same, whatever cells they have past those that count.
use Rattle.std.specs.Prelude.{◌≡◌, ℕ, ◌<◌}
use Rattle.sheet.specs.declared.Sheet.{Sheet}
use Rattle.sheet.specs.Sheets.{kind_at, line_at, unplaced_at}

-- the same counts and container, and below the counts the same kinds, lines and unplaced ids
pub record Alike (s t : Sheet) : Type 0 where
  pub many_is : s.many ≡ t.many
  pub container_is : s.container ≡ t.container
  pub kind_is : (k : ℕ) → k < s.many.kinds → kind_at s k ≡ kind_at t k
  pub line_is : (i : ℕ) → i < s.many.lines → line_at s i ≡ line_at t i
  pub id_is : (i : ℕ) → i < s.many.unplaced → unplaced_at s i ≡ unplaced_at t i
