-- What the checker reads off a sheet's lines: the kind that a line names, which lines repeat one, and how many copies are packed.
-- RULES: Findings: lines, Findings: unplaced
use Rattle.std.specs.Prelude.{ℕ, zero, suc, Bool, not, ◌&&◌, cond, List, eqb, ltb, get_or, Float}
use Rattle.floats.specs.Ops.{◌⊕◌, none}
use Rattle.lists.specs.Below.{any_below, sum_below}
use Rattle.domain.specs.Refusals.{when}
use Rattle.measures.specs.declared.Kind.{Kind}
use Rattle.measures.specs.Asked.{has_mass}
use Rattle.sheet.specs.declared.Line.{Line}
use Rattle.sheet.specs.declared.Sheet.{Sheet}
use Rattle.sheet.specs.Sheets.{no_kind, no_line, kind_at, line_at}
use Rattle.check_pair.specs.Tolerance.{tolerance_of}
pub use Rattle.check_words.specs.Boxes.{box_of}
pub use Rattle.check_list.specs.Finding.{in_range}

-- ---- kinds by id

-- the first of n kinds that has this id, or n where none has
unfoldable pub kind_below : List Kind → ℕ → ℕ → ℕ
kind_below kinds id zero = 0
kind_below kinds id (suc n) = let k = kind_below kinds id n in cond (ltb k n) k (cond (eqb (get_or kinds n no_kind).id id) n (suc n))

abbrev pub kind_of : Sheet → ℕ → ℕ
kind_of s id = kind_below s.kinds id s.many.kinds

-- one of the sheet's kinds has this id
abbrev pub is_known : Sheet → ℕ → Bool
is_known s id = ltb (kind_of s id) s.many.kinds

-- a line of a known kind
unfoldable pub known : Sheet → Line → Bool
known s l = is_known s l.id

-- the kind that a line names, where it is known
unfoldable pub kind_for : Sheet → Line → Kind
kind_for s l = kind_at s (kind_of s l.id)

-- ---- copies

-- two lines name the same copy
abbrev pub same_box : Line → Line → Bool
same_box l m = eqb l.id m.id && eqb l.instance m.instance

-- line j names the copy that line i names
unfoldable pub same_as : List Line → ℕ → ℕ → Bool
same_as lines i j = same_box (get_or lines j no_line) (get_or lines i no_line)

-- an earlier line names the copy that line i names
unfoldable pub again : List Line → ℕ → Bool
again lines i = any_below (same_as lines i) i

-- of a known kind, and a copy that it has
unfoldable pub counted : Sheet → Line → Bool
counted s l = known s l && in_range l (kind_for s l)

-- such a line whose copy an earlier one names: a line out of range is never called repeated
abbrev pub repeats : Sheet → ℕ → Bool
repeats s i = counted s (line_at s i) && again s.lines i

-- such a line that is the first of its copy, for kind k
unfoldable pub packs : Sheet → ℕ → ℕ → ℕ
packs s k i = when (counted s (line_at s i) && (not (again s.lines i) && eqb (kind_of s (line_at s i).id) k)) 1

-- how many copies of kind k are packed: the first line in range of each
unfoldable pub packed : Sheet → ℕ → ℕ
packed s k = sum_below (packs s k) s.many.lines

-- fewer than there are
unfoldable pub short : Sheet → ℕ → Bool
short s k = ltb (packed s k) (kind_at s k).quantity

-- ---- the tolerance, and the mass. RULES: Tolerance, Findings: mass

abbrev pub tolerance : Sheet → Float
tolerance s = tolerance_of s.container.size

-- a kind without a mass adds 0
abbrev pub mass_of : Kind → Float
mass_of k = cond (has_mass k.massed) k.mass none

-- the mass with one line more, of this kind where it is known
abbrev pub mass_with : Float → Bool → Kind → Float
mass_with sum known k = cond known (sum ⊕ mass_of k) sum

-- of the first n lines, in their order: a repeated line counts, an unknown one does not
unfoldable pub mass_below : Sheet → ℕ → Float
mass_below s zero = none
mass_below s (suc n) = mass_with (mass_below s n) (known s (line_at s n)) (kind_for s (line_at s n))

-- of all lines
abbrev pub mass : Sheet → Float
mass s = mass_below s s.many.lines
