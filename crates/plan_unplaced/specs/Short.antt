-- Which kinds are short: fewer of their boxes are placed, each instance in range once, than their quantity.
use Rattle.std.specs.Prelude.{Bool, ◌&&◌, List, ℕ, eqb, ltb, get_or}
use Rattle.lists.specs.Below.{any_below, sum_below}
use Rattle.domain.specs.Refusals.{when}
use Rattle.sheet.specs.declared.Line.{Line}
use Rattle.sheet.specs.Sheets.{no_line}

-- of line j its id, and its instance
abbrev pub id_at : List Line → ℕ → ℕ
id_at lines j = (get_or lines j no_line).id

abbrev pub instance_at : List Line → ℕ → ℕ
instance_at lines j = (get_or lines j no_line).instance

-- line j places instance i of the kind with this id
unfoldable pub places : List Line → ℕ → ℕ → ℕ → Bool
places lines id i j = eqb (id_at lines j) id && eqb (instance_at lines j) i

-- one of the first n lines does
unfoldable pub is_placed : List Line → ℕ → ℕ → ℕ → Bool
is_placed lines n id i = any_below (places lines id i) n

-- 1 for an instance that is placed
unfoldable pub one_placed : List Line → ℕ → ℕ → ℕ → ℕ
one_placed lines n id i = when (is_placed lines n id i) 1

-- how many of the instances in range, which are those below the quantity, are placed: each counts once
unfoldable pub distinct_placed : List Line → ℕ → ℕ → ℕ → ℕ
distinct_placed lines n id quantity = sum_below (one_placed lines n id) quantity

-- RULES: Unplaced list. A kind is short if fewer of its boxes are placed, each instance in range once, than its quantity
unfoldable pub is_short : List Line → ℕ → ℕ → ℕ → Bool
is_short lines n id quantity = ltb (distinct_placed lines n id quantity) quantity
