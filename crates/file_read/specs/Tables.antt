-- What the tables of a read sheet have at a record's place.
use Rattle.std.specs.Prelude.{ℕ, ◌+◌, ◌*◌, ◌≤◌, ◌<◌, ◌≡◌, List, get_or}
use Rattle.lists.specs.Table.{table_at}
use Rattle.domain.specs.Bounds.{most_kinds, most_lines, most_unplaced}
use Rattle.sheet.specs.Sheets.{no_kind, no_line}
use Rattle.file_bytes.specs.Bytes.{u32_at}
use Rattle.file_read.specs.Form.{line_bytes, id_bytes}
use Rattle.file_read.specs.Reading.{kind_from, line_from, kind_place, blank_kind, blank_line, kinds_by, kinds_of, lines_by, lines_of, ids_by, ids_of}

pub kinds_at : (f : List ℕ) (n k : ℕ) → n ≤ most_kinds → k < n → get_or (kinds_of f n) k no_kind ≡ kind_from f (kind_place k)
unfolding kinds_by
kinds_at f n k m l = table_at blank_kind most_kinds (λ j. kind_from f (kind_place j)) n k no_kind m l

pub lines_at : (f : List ℕ) (start n i : ℕ) → n ≤ most_lines → i < n → get_or (lines_of f start n) i no_line ≡ line_from f (start + i * line_bytes)
unfolding lines_by
lines_at f start n i m l = table_at blank_line most_lines (λ j. line_from f (start + j * line_bytes)) n i no_line m l

pub ids_at : (f : List ℕ) (start n i : ℕ) → n ≤ most_unplaced → i < n → get_or (ids_of f start n) i 0 ≡ u32_at f (start + i * id_bytes)
unfolding ids_by
ids_at f start n i m l = table_at 0 most_unplaced (λ j. u32_at f (start + j * id_bytes)) n i 0 m l
