-- How a sheet is written, and the writing call's answer and effect. RULES: Load file, Lent memory
use Rattle.std.specs.Prelude.{◌≡◌, ℕ, ◌+◌, ◌*◌, cond, List, [], ◌∷◌, ◌++◌, length, drop, get_or, Float, Result, Ok, Err, is_ok}
use Rattle.std.specs.Float.{binary64}
use Rattle.std.specs.Float.Ieee.{to_bits}
use Rattle.floats.specs.Ops.{x, y, z}
use Rattle.domain.specs.declared.Refusal.{Refusal}
use Rattle.domain.specs.Refusal.{refused_or, with_room}
use Rattle.measures.specs.declared.Kind.{Kind}
use Rattle.measures.specs.declared.Container.{Container}
use Rattle.sheet.specs.declared.Counts.{Counts}
use Rattle.sheet.specs.declared.Line.{Line}
use Rattle.sheet.specs.declared.Sheet.{Sheet}
use Rattle.sheet.specs.Sheets.{no_kind, no_line, sheet_refusal}
use Rattle.lists.specs.Below.{all_below}
use Rattle.file_bytes.specs.Bytes.{u32_out}
use Rattle.file_bytes.specs.Layout.{fields_out}
use Rattle.file_read.specs.Form.{block_fields, kind_fields, line_fields, trailer_fields, form, letter_l, letter_s}
use Rattle.file_read.specs.Form.{block_bytes, kind_bytes, line_bytes, id_bytes, trailer_bytes}

-- ---- the numbers of a record's fields in turn: what `file_read: Reading` makes a record of

-- a float's bits
abbrev pub bits_of : Float → ℕ
bits_of v = to_bits binary64 v

unfoldable pub container_numbers : Container → List ℕ
container_numbers c =
    bits_of (x c.size) ∷ bits_of (y c.size) ∷ bits_of (z c.size) ∷ bits_of c.margin ∷ bits_of c.spacing ∷ bits_of c.limit ∷ []

unfoldable pub kind_numbers : Kind → List ℕ
kind_numbers k =
    k.id ∷ k.quantity ∷ bits_of (x k.size) ∷ bits_of (y k.size) ∷ bits_of (z k.size) ∷ bits_of k.mass ∷ k.rule ∷ k.massed ∷ k.filler ∷ []

unfoldable pub line_numbers : Line → List ℕ
line_numbers l =
    l.id ∷ l.instance ∷ l.orientation ∷ l.bin ∷ bits_of (x l.at) ∷ bits_of (y l.at) ∷ bits_of (z l.at) ∷ []

-- where a sheet's lines, unplaced ids and trailer start
abbrev pub lines_from : Counts → ℕ
lines_from m = block_bytes + m.kinds * kind_bytes

abbrev pub unplaced_from : Counts → ℕ
unplaced_from m = lines_from m + m.lines * line_bytes

abbrev pub trailer_from : Counts → ℕ
trailer_from m = unplaced_from m + m.unplaced * id_bytes

unfoldable pub trailer_numbers : Counts → List ℕ
trailer_numbers m = block_bytes ∷ lines_from m ∷ unplaced_from m ∷ trailer_from m ∷ form ∷ letter_l ∷ letter_s ∷ []

-- ---- the records as bytes

unfoldable pub container_out : Container → List ℕ
container_out c = fields_out block_fields (container_numbers c)

unfoldable pub kind_out : Kind → List ℕ
kind_out k = fields_out kind_fields (kind_numbers k)

unfoldable pub line_out : Line → List ℕ
line_out l = fields_out line_fields (line_numbers l)

unfoldable pub trailer_out : Counts → List ℕ
trailer_out m = fields_out trailer_fields (trailer_numbers m)

-- the records of a section
unfoldable pub kinds_out : List Kind → ℕ → List ℕ
kinds_out kinds n = all_below (λ k. kind_out (get_or kinds k no_kind)) n

unfoldable pub lines_out : List Line → ℕ → List ℕ
lines_out lines n = all_below (λ i. line_out (get_or lines i no_line)) n

unfoldable pub ids_out : List ℕ → ℕ → List ℕ
ids_out ids n = all_below (λ i. u32_out (get_or ids i 0)) n

-- the file of a sheet
unfoldable pub file_of : Sheet → List ℕ
file_of s =
    container_out s.container
    ++ (kinds_out s.kinds s.many.kinds
    ++ (lines_out s.lines s.many.lines
    ++ (ids_out s.unplaced s.many.unplaced
    ++ trailer_out s.many)))

abbrev pub file_length : Counts → ℕ
file_length m = trailer_from m + trailer_bytes

-- ---- the writing call: refused as the sheet is, then 6 with the length needed where the lent bytes are fewer
unfoldable pub written_of : Sheet → ℕ → Result ℕ Refusal
written_of s lent = refused_or (sheet_refusal s) (with_room lent (file_length s.many) (file_length s.many))

-- the lent bytes after it: the file and then the old bytes, or all as it was
unfoldable pub bytes_after : Sheet → List ℕ → List ℕ
bytes_after s out = cond (is_ok (written_of s (length out))) (file_of s ++ drop (file_length s.many) out) out

-- a refusal leaves them as they were
pub bytes_stay : (s : Sheet) (out : List ℕ) (r : Refusal) → Err r ≡ written_of s (length out) → out ≡ bytes_after s out
unfolding bytes_after
bytes_stay s out r e = rw (← e)

pub bytes_written : (s : Sheet) (out : List ℕ) (n : ℕ) → Ok n ≡ written_of s (length out) → file_of s ++ drop (file_length s.many) out ≡ bytes_after s out
unfolding bytes_after
bytes_written s out n e = rw (← e)
