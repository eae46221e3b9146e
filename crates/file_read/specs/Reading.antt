-- What a load file says: its container, kinds, lines and unplaced ids, and the refusal that it gets. RULES: Load file, Refusals
use Rattle.std.specs.Prelude.{ℕ, ◌+◌, ◌*◌, not, List, [], ◌∷◌, get_or, Float, Result}
use Rattle.std.specs.Float.{binary64}
use Rattle.std.specs.Float.Ieee.{of_bits}
use Rattle.lists.specs.Table.{filled, table}
use Rattle.domain.specs.Refusals.{when, or_else}
use Rattle.domain.specs.declared.Refusal.{Refusal}
use Rattle.domain.specs.Refusal.{answer_of}
use Rattle.measures.specs.declared.Kind.{Kind}
use Rattle.measures.specs.declared.Container.{Container}
use Rattle.sheet.specs.declared.Line.{Line}
use Rattle.sheet.specs.declared.Sheet.{Sheet}
use Rattle.sheet.specs.Sheets.{Most, most_now, sheet_refusal_by}
pub use Rattle.sheet.specs.Sheets.{blank_kind, blank_line}
use Rattle.file_bytes.specs.Bytes.{u32_at}
use Rattle.file_bytes.specs.Layout.{fields_at}
use Rattle.file_read.specs.Form.{block_fields, kind_fields, line_fields, block_bytes, kind_bytes, line_bytes, id_bytes}
use Rattle.file_read.specs.Form.{lines_start, unplaced_start, right_shape, counts_of}

-- ---- a record by the numbers of its fields in turn

-- a float by its bits
abbrev pub float_at : List ℕ → ℕ → Float
float_at v i = of_bits binary64 (get_or v i 0)

unfoldable pub container_of : List ℕ → Container
container_of v =
    record { size = float_at v 0 ∷ float_at v 1 ∷ float_at v 2 ∷ []; margin = float_at v 3; spacing = float_at v 4; limit = float_at v 5 }

unfoldable pub kind_of : List ℕ → Kind
kind_of v =
    record {
      id = get_or v 0 0;
      quantity = get_or v 1 0;
      size = float_at v 2 ∷ float_at v 3 ∷ float_at v 4 ∷ [];
      mass = float_at v 5;
      rule = get_or v 6 0;
      massed = get_or v 7 0;
      filler = get_or v 8 0;
    }

unfoldable pub line_of : List ℕ → Line
line_of v =
    record {
      id = get_or v 0 0;
      instance = get_or v 1 0;
      orientation = get_or v 2 0;
      bin = get_or v 3 0;
      at = float_at v 4 ∷ float_at v 5 ∷ float_at v 6 ∷ [];
    }

-- what stands in the container block, in a kind record and in a line record
unfoldable pub container_from : List ℕ → Container
container_from f = container_of (fields_at block_fields f 0 0)

unfoldable pub kind_from : List ℕ → ℕ → Kind
kind_from f p = kind_of (fields_at kind_fields f p 0)

unfoldable pub line_from : List ℕ → ℕ → Line
line_from f p = line_of (fields_at line_fields f p 0)

-- where kind k, line i and unplaced id i stand
abbrev pub kind_place : ℕ → ℕ
kind_place k = block_bytes + k * kind_bytes

abbrev pub line_place : List ℕ → ℕ → ℕ
line_place f i = lines_start f + i * line_bytes

abbrev pub id_place : List ℕ → ℕ → ℕ
id_place f i = unplaced_start f + i * id_bytes

-- ---- a sheet's lists have a cell for each record that there may be; the cells past those that count are blank

-- n kinds, lines or unplaced ids in so many cells
unfoldable pub kinds_by : ℕ → List ℕ → ℕ → List Kind
unfolding filled
kinds_by cells f n = table blank_kind cells (λ k. kind_from f (kind_place k)) n

unfoldable pub lines_by : ℕ → List ℕ → ℕ → ℕ → List Line
unfolding filled
lines_by cells f start n = table blank_line cells (λ i. line_from f (start + i * line_bytes)) n

unfoldable pub ids_by : ℕ → List ℕ → ℕ → ℕ → List ℕ
unfolding filled
ids_by cells f start n = table 0 cells (λ i. u32_at f (start + i * id_bytes)) n

-- the sheet that a file says, in cells for so many records
abbrev pub sheet_by : Most → List ℕ → Sheet
sheet_by b f =
    record {
      many = counts_of f;
      container = container_from f;
      kinds = kinds_by b.kinds f (counts_of f).kinds;
      lines = lines_by b.lines f (lines_start f) (counts_of f).lines;
      unplaced = ids_by b.unplaced f (unplaced_start f) (counts_of f).unplaced;
    }

-- its shape first, then what it says
abbrev pub refusal_by : Most → List ℕ → ℕ
refusal_by b f = or_else (when (not (right_shape f)) 1) (sheet_refusal_by b (sheet_by b f))

-- ---- the same by the counts that hold

abbrev pub kinds_of : List ℕ → ℕ → List Kind
kinds_of f n = kinds_by most_now.kinds f n

abbrev pub lines_of : List ℕ → ℕ → ℕ → List Line
lines_of f start n = lines_by most_now.lines f start n

abbrev pub ids_of : List ℕ → ℕ → ℕ → List ℕ
ids_of f start n = ids_by most_now.unplaced f start n

unfoldable pub sheet_of : List ℕ → Sheet
unfolding counts_of
sheet_of f = sheet_by most_now f

unfoldable pub refusal_of : List ℕ → ℕ
unfolding or_else
refusal_of f = refusal_by most_now f

-- the reading call's answer
unfoldable pub read_of : List ℕ → Result Sheet Refusal
read_of f = answer_of (refusal_of f) (sheet_of f)
