-- The counts that bound a sheet, an order, an instance list and a placer's state.
use Rattle.std.specs.Prelude.{ℕ, ◌-◌, cond, ltb}

-- RULES: Numbers that bound it. Kinds, boxes of all kinds together, lines, unplaced ids, items, records of an instance list: at most so many.
abbrev pub most_kinds : ℕ
most_kinds = 64

abbrev pub most_boxes : ℕ
most_boxes = 1024

abbrev pub most_lines : ℕ
most_lines = 1024

abbrev pub most_unplaced : ℕ
most_unplaced = 256

abbrev pub most_items : ℕ
most_items = 1024

abbrev pub most_instances : ℕ
most_instances = 1024

-- most orders and sheets are small: a store for few boxes or lines, or for some, is made where it does, which no answer tells
abbrev pub few_boxes : ℕ
few_boxes = 64

abbrev pub few_lines : ℕ
few_lines = 64

abbrev pub some_boxes : ℕ
some_boxes = 256

abbrev pub some_lines : ℕ
some_lines = 256

-- a place that a store of kinds has: the last one for a number past them
unfoldable pub place_within : ℕ → ℕ
place_within k = cond (ltb k most_kinds) k (most_kinds - 1)
