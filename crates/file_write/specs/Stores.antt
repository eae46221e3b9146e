-- The lengths of what is written, and a whole file stored.
use Rattle.std.specs.Prelude.{◌≡◌, List, ◌++◌, ℕ, zero, suc, ◌*◌, ◌≤◌, length, get_or, take, drop}
use Rattle.std.proofs.Common.{◌∙◌, ap, arith, length-take-le, zero-add, length-append}
use Rattle.std.proofs.lemmas.List.{get_or-take}
use Rattle.std.proofs.lemmas.List.Edits.{sets-eq}
use Rattle.measures.specs.declared.Kind.{Kind}
use Rattle.measures.specs.declared.Container.{Container}
use Rattle.sheet.specs.declared.Counts.{Counts}
use Rattle.sheet.specs.declared.Line.{Line}
use Rattle.sheet.specs.declared.Sheet.{Sheet}
use Rattle.sheet.specs.Sheets.{no_kind, no_line}
use Rattle.lists.specs.Below.{all_below, all_same}
use Rattle.file_bytes.specs.Bytes.{word, u32_out}
use Rattle.file_bytes.specs.Layout.{bytes_length, fields_length}
use Rattle.file_bytes.specs.Stores.{Put}
use Rattle.file_read.specs.Form.{block_fields, kind_fields, line_fields, trailer_fields, block_bytes, kind_bytes, line_bytes, id_bytes, trailer_bytes}
use Rattle.file_write.specs.Writing.{container_numbers, kind_numbers, line_numbers, trailer_numbers, container_out, kind_out, line_out, trailer_out}
use Rattle.file_write.specs.Writing.{kinds_out, lines_out, ids_out, file_of, file_length}

-- ---- the lengths of what is written
pub container_length : (c : Container) → length (container_out c) ≡ block_bytes
unfolding container_out
container_length c = fields_length block_fields (container_numbers c)

pub kind_length : (k : Kind) → length (kind_out k) ≡ kind_bytes
unfolding kind_out
kind_length k = fields_length kind_fields (kind_numbers k)

pub line_length : (l : Line) → length (line_out l) ≡ line_bytes
unfolding line_out
line_length l = fields_length line_fields (line_numbers l)

pub id_length : (id : ℕ) → length (u32_out id) ≡ id_bytes
id_length id = bytes_length word id

pub trailer_length : (m : Counts) → length (trailer_out m) ≡ trailer_bytes
unfolding trailer_out
trailer_length m = fields_length trailer_fields (trailer_numbers m)

-- n records of w bytes each
pub all_length : (g : ℕ → List ℕ) (w : ℕ) → ((k : ℕ) → length (g k) ≡ w) → (n : ℕ) → length (all_below g n) ≡ n * w
unfolding all_below
all_length g w h zero = omega arith
all_length g w h (suc n) = simp length-append (rw (all_length g w h n, h n) (omega arith))

-- the records of a list's first cells
pub first_records : {A : Type 0} (bytes : A → List ℕ) (d : A) (xs : List A) (n : ℕ) → n ≤ length xs
    → all_below (λ k. bytes (get_or (take n xs) k d)) (length (take n xs)) ≡ all_below (λ k. bytes (get_or xs k d)) n
first_records bytes d xs n h = rw (length-take-le n xs h) (all_same _ _ n (λ k l. ap bytes (get_or-take n xs k d l)))

pub kinds_length : (kinds : List Kind) (n : ℕ) → length (kinds_out kinds n) ≡ n * kind_bytes
unfolding kinds_out
kinds_length kinds = all_length (λ k. kind_out (get_or kinds k no_kind)) kind_bytes (λ k. kind_length (get_or kinds k no_kind))

pub lines_length : (lines : List Line) (n : ℕ) → length (lines_out lines n) ≡ n * line_bytes
unfolding lines_out
lines_length lines = all_length (λ i. line_out (get_or lines i no_line)) line_bytes (λ i. line_length (get_or lines i no_line))

pub ids_length : (ids : List ℕ) (n : ℕ) → length (ids_out ids n) ≡ n * id_bytes
unfolding ids_out
ids_length ids = all_length (λ i. u32_out (get_or ids i 0)) id_bytes (λ i. bytes_length word (get_or ids i 0))

-- the length of a sheet's file
pub file_length_is : (s : Sheet) → length (file_of s) ≡ file_length s.many
unfolding file_of
file_length_is s =
    simp length-append
    (rw (container_length s.container, kinds_length s.kinds s.many.kinds, lines_length s.lines s.many.lines)
    (rw (ids_length s.unplaced s.many.unplaced, trailer_length s.many) (omega arith)))

-- a whole file stored at the start is the file and then the old bytes
pub put_file : (s : Sheet) (o o' : List ℕ) → file_length s.many ≤ length o → Put o 0 (file_of s) o' → o' ≡ file_of s ++ drop (file_length s.many) o
put_file s o o' room p = p.cells ∙ sets-eq (file_of s) o 0 (rw (file_length_is s) (omega arith)) ∙ rw (file_length_is s, zero-add)
