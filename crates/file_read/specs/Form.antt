-- The layout of a load file, form 1, and its shape: where its sections start, and when that is right. RULES: Load file
use Rattle.std.specs.Prelude.{ℕ, ◌-◌, ◌/◌, ◌%◌, Bool, ◌&&◌, List, [], ◌∷◌, leb, eqb, length, get_or}
use Rattle.sheet.specs.declared.Counts.{Counts}
use Rattle.file_bytes.specs.Bytes.{byte, half, word, float}
use Rattle.file_bytes.specs.Layout.{width_of, fields_at}

-- ---- each record's fields in turn, by their widths

-- the container block: width, depth, height, margin, spacing, mass limit
abbrev pub block_fields : List ℕ
block_fields = float ∷ float ∷ float ∷ float ∷ float ∷ float ∷ []

-- a kind: id, quantity; width, depth, height, mass; rule, mass flag, two zero bytes
abbrev pub kind_fields : List ℕ
kind_fields = word ∷ word ∷ float ∷ float ∷ float ∷ float ∷ byte ∷ byte ∷ half ∷ []

-- a line: id, instance, orientation, bin; x, y, z
abbrev pub line_fields : List ℕ
line_fields = word ∷ word ∷ word ∷ word ∷ float ∷ float ∷ float ∷ []

-- the trailer, which points back: the starts of the kinds, the lines, the unplaced ids and of itself; the form; the last two bytes
abbrev pub trailer_fields : List ℕ
trailer_fields = word ∷ word ∷ word ∷ word ∷ half ∷ byte ∷ byte ∷ []

-- ---- their lengths

abbrev pub block_bytes : ℕ
block_bytes = width_of block_fields

abbrev pub kind_bytes : ℕ
kind_bytes = width_of kind_fields

abbrev pub line_bytes : ℕ
line_bytes = width_of line_fields

-- an unplaced id is a word
abbrev pub id_bytes : ℕ
id_bytes = word

abbrev pub trailer_bytes : ℕ
trailer_bytes = width_of trailer_fields

-- the most bytes that a load file has
abbrev pub most_bytes : ℕ
most_bytes = 60000

-- the number of the form, and the two bytes that end a load file
abbrev pub form : ℕ
form = 1

abbrev pub letter_l : ℕ
letter_l = 76

abbrev pub letter_s : ℕ
letter_s = 83

-- ---- the shape

-- where the trailer is, and its numbers
abbrev pub trailer : List ℕ → ℕ
trailer f = length f - trailer_bytes

unfoldable pub trailer_of : List ℕ → List ℕ
trailer_of f = fields_at trailer_fields f (trailer f) 0

abbrev pub kinds_start : List ℕ → ℕ
kinds_start f = get_or (trailer_of f) 0 0

abbrev pub lines_start : List ℕ → ℕ
lines_start f = get_or (trailer_of f) 1 0

abbrev pub unplaced_start : List ℕ → ℕ
unplaced_start f = get_or (trailer_of f) 2 0

abbrev pub trailer_start : List ℕ → ℕ
trailer_start f = get_or (trailer_of f) 3 0

-- of a file of n bytes whose trailer has these numbers: it is not too long, the kinds start behind the container block, no start is
-- before an earlier one, the trailer stands at the end, and the form and the last bytes are these
unfoldable pub placed : ℕ → ℕ → ℕ → ℕ → ℕ → ℕ → ℕ → ℕ → Bool
placed n k l u t v a b =
    leb n most_bytes
    && (eqb k block_bytes
    && (leb k l && (leb l u && (leb u t && (eqb t (n - trailer_bytes) && (eqb v form && (eqb a letter_l && eqb b letter_s)))))))

-- each section is whole records
unfoldable pub whole : ℕ → ℕ → ℕ → Bool
whole l u t = eqb ((l - block_bytes) % kind_bytes) 0 && (eqb ((u - l) % line_bytes) 0 && eqb ((t - u) % id_bytes) 0)

-- the same of a trailer's numbers
abbrev pub placed_by : ℕ → List ℕ → Bool
placed_by n v = placed n (get_or v 0 0) (get_or v 1 0) (get_or v 2 0) (get_or v 3 0) (get_or v 4 0) (get_or v 5 0) (get_or v 6 0)

unfoldable pub right_shape : List ℕ → Bool
right_shape f =
    leb trailer_bytes (length f) && (placed_by (length f) (trailer_of f) && whole (lines_start f) (unplaced_start f) (trailer_start f))

-- how many records each section has
unfoldable pub counts_of : List ℕ → Counts
counts_of f =
    record {
      kinds = (lines_start f - block_bytes) / kind_bytes;
      lines = (unplaced_start f - lines_start f) / line_bytes;
      unplaced = (trailer f - unplaced_start f) / id_bytes;
    }
