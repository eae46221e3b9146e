-- Words written one after the other into lent cells, from a place on. A word past the end changes no cell, so the same run counts and
-- writes. RULES: Findings: words
use Rattle.std.specs.Prelude.{◌≡◌, ℕ, ◌+◌, ◌*◌, ◌/◌, ◌<◌, ◌≤◌, List, [], length}
use Rattle.std.proofs.lemmas.List.Edits.{sets}
use Rattle.domain.specs.Bounds.{most_kinds, most_lines, most_unplaced}

-- six a line, one a pair, the mass, one a kind and one an unplaced id: there are never more findings than this
unfoldable pub room_for : ℕ → ℕ → ℕ → ℕ
room_for kinds lines unplaced = 6 * lines + lines * lines / 2 + kinds + unplaced + 1

-- no finding begins past so many cells
abbrev pub most_words : ℕ
most_words = 5 * (6 * most_lines + most_lines * most_lines / 2 + most_kinds + most_unplaced + 1)

-- r and o' are the place and the cells after the words ws were written to the cells o from `at`
pub record Wrote (o : List ℕ) (at : ℕ) (ws : List ℕ) (r : ℕ) (o' : List ℕ) : Type 0 where
  pub next : r ≡ at + length ws
  pub cells : o' ≡ sets o at ws

-- the same for one finding, of which none begins past the most cells
pub record Given (o : List ℕ) (at : ℕ) (ws : List ℕ) (r : ℕ) (o' : List ℕ) : Type 0 where
  pub within : at < most_words → Wrote o at ws r o'
  pub past : most_words ≤ at → Wrote o at [] r o'
  pub few : r ≤ at + 5
