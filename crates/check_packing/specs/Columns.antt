-- What the columns hold that are filled from an accepted file: by kind, by line and by unplaced id.
use Rattle.std.specs.Prelude.{ℕ, zero, suc, ◌+◌, ◌*◌, ◌/◌, ◌<◌, ◌≤◌, ◌≡◌, Bool, false, cond, ◌&&◌, List, eqb, ltb, length, get_or, replicate}
use Rattle.lists.specs.Below.{any_below, sum_below, is_at}
use Rattle.domain.specs.Bounds.{most_kinds}
use Rattle.sheet.specs.declared.Sheet.{Sheet}
use Rattle.sheet.specs.declared.Counts.{Counts}
use Rattle.sheet.specs.Sheets.{kind_at, line_at, quantity_of}
use Rattle.file_read.specs.Reading.{sheet_of}
use Rattle.file_read.specs.Records.{kind_in}
use Rattle.file_accept.specs.declared.Accepted.{Accepted}
use Rattle.file_accept.specs.Accept.{Taken}
use Rattle.check_pair.specs.declared.Extent.{Extent}
use Rattle.check_list.specs.View.{lines_found}
use Rattle.check_list.specs.Held.{Ran}
use Rattle.check_packing.specs.declared.Lined.{Lined}
use Rattle.check_packing.specs.Lines.{kind_of, box_of, packed, short, mass}
use Rattle.check_packing.specs.Findings.{view_of}

-- ---- kinds: id and quantity

unfoldable pub kind_id : Sheet → ℕ → ℕ
kind_id s k = (kind_at s k).id

unfoldable pub kind_many : Sheet → ℕ → ℕ
kind_many s k = (kind_at s k).quantity

-- how many boxes there are before kind k
unfoldable pub kind_first : Sheet → ℕ → ℕ
kind_first s k = sum_below (quantity_of s.kinds) k

-- the first of n ids that is this one, or n where none is
unfoldable pub place_below : List ℕ → ℕ → ℕ → ℕ
place_below ids id zero = 0
place_below ids id (suc n) = let k = place_below ids id n in cond (ltb k n) k (cond (eqb (get_or ids n 0) id) n (suc n))

-- a column that holds the ids of m kinds
abbrev pub Ids : Sheet → ℕ → List ℕ → Type 0
Ids s m ids = (k : ℕ) → k < m → get_or ids k 0 ≡ kind_id s k

-- ---- lines: the place of the kind, and the box, which is of no use where the kind is unknown

unfoldable pub kind_named : Sheet → ℕ → ℕ
kind_named s i = kind_of s (line_at s i).id

unfoldable pub box_read : List ℕ → ℕ → Extent
box_read f i = box_of (line_at (sheet_of f) i) (kind_in f (kind_named (sheet_of f) i))

-- ---- marks: one for each box of the order

-- the mark of a copy, of so many, where the boxes of its kind begin there; the first for a line that does not count
unfoldable pub slot_of : ℕ → ℕ → ℕ → Bool → ℕ
slot_of marks first copy counts = cond (counts && ltb (first + copy) marks) (first + copy) 0

-- marks that are enough for the boxes of m kinds, one at least, none of them set
pub record Unmarked (s : Sheet) (m : ℕ) (seen : List Bool) : Type 0 where
  pub some : 0 < length seen
  pub enough : kind_first s m ≤ length seen
  pub none_set : seen ≡ replicate (length seen) false

-- what the columns hold that the marks are made by
pub record MarksRead (f : List ℕ) (a : Accepted) (which many firsts : List ℕ) : Type 0 where
  pub file_taken : Taken f a
  pub which_is : (i : ℕ) → i < a.lines → get_or which i 0 ≡ kind_named (sheet_of f) i
  pub many_is : (k : ℕ) → k < a.kinds → get_or many k 0 ≡ kind_many (sheet_of f) k
  pub first_is : (k : ℕ) → k < a.kinds → get_or firsts k 0 ≡ kind_first (sheet_of f) k

-- ---- fewer packed than there are, by the columns
unfoldable pub short_in : List ℕ → List ℕ → ℕ → Bool
short_in packed many k = ltb (get_or packed k 0) (get_or many k 0)

-- ---- what the columns of kinds hold cell by cell: quantities, copies packed, which are short, which are listed by n unplaced ids

abbrev pub Many : Sheet → ℕ → List ℕ → Type 0
Many s m many = (k : ℕ) → k < m → get_or many k 0 ≡ kind_many s k

abbrev pub Packed : Sheet → ℕ → List ℕ → Type 0
Packed s m sums = (k : ℕ) → k < m → get_or sums k 0 ≡ packed s k

abbrev pub Short : Sheet → ℕ → List Bool → Type 0
Short s m shorts = (k : ℕ) → k < m → get_or shorts k false ≡ short s k

pub record Listed (s : Sheet) (n : ℕ) (listed : List Bool) : Type 0 where
  pub long : length listed ≡ most_kinds
  pub marks : (k : ℕ) → k < s.many.kinds → get_or listed k false ≡ any_below (is_at s.unplaced (kind_at s k).id) n

-- ---- what stands before the lines, and when they are done

-- the columns of an accepted file's kinds, none of their boxes packed
abbrev pub Ready : List ℕ → Accepted → List ℕ → List ℕ → List ℕ → Type 0
Ready f a ids many packed = Taken f a × (Ids (sheet_of f) a.kinds ids × (Many (sheet_of f) a.kinds many × (packed ≡ replicate most_kinds 0)))

abbrev pub counts_of : Accepted → Counts
counts_of a = record { kinds = a.kinds; lines = a.lines; unplaced = a.unplaced }

pub record LinesPut (s : Sheet) (o : List ℕ) (sums : List ℕ) (r : Lined) (o' : List ℕ) : Type 0 where
  pub put : Ran o 0 (6 * s.many.lines + s.many.lines * s.many.lines / 2) (lines_found (view_of s)) r.words o'
  pub mass_is : r.mass ≡ mass s
  pub packed_are : Packed s s.many.kinds sums
