-- A file's sections and records out of its bytes, for every list of bytes; and of a file that can be read they are those of its sheet.
use Rattle.std.specs.Prelude.{◌≡◌, refl, Bool, true, false, cond, List, ℕ, ◌+◌, ◌-◌, ◌*◌, ◌/◌, ◌<◌, ltb, leb, length, Option, Some, None}
use Rattle.std.proofs.Common.{sym, arith, le-ltb}
use Rattle.std.proofs.lemmas.Bool.{lt-leb}
use Rattle.floats.specs.Ops.{none, nowhere}
use Rattle.domain.specs.Bounds.{most_kinds, most_lines, most_unplaced}
use Rattle.measures.specs.declared.Kind.{Kind}
use Rattle.measures.specs.declared.Container.{Container}
use Rattle.sheet.specs.declared.Counts.{Counts}
use Rattle.sheet.specs.declared.Line.{Line}
use Rattle.sheet.specs.Sheets.{over_count, kind_at, line_at, unplaced_at, blank_kind, blank_line}
use Rattle.sheet.specs.Accepted.{Few, few}
use Rattle.file_read.specs.declared.records.Sections.{Sections}
use Rattle.file_bytes.specs.Bytes.{u32_at}
use Rattle.file_read.specs.Form.{block_bytes, kind_bytes, line_bytes, id_bytes, most_bytes, trailer, lines_start, unplaced_start, right_shape, counts_of}
use Rattle.file_read.specs.Reading.{kind_from, line_from, kind_place, line_place, id_place, container_from, sheet_of}
use Rattle.file_read.specs.Shaped.{shaped, Within, within}
use Rattle.file_read.specs.Tables.{kinds_at, lines_at, ids_at}

-- ---- RULES: Load file

-- a file of another shape has none
unfoldable pub sections_of : List ℕ → Option Sections
sections_of f = cond (right_shape f) (Some (record { many = counts_of f; start = lines_start f; end = unplaced_start f })) None

-- and no records
unfoldable pub counts_in : List ℕ → Counts
counts_in f = cond (right_shape f) (counts_of f) (record { kinds = 0; lines = 0; unplaced = 0 })

abbrev pub blank_container : Container
blank_container = record { size = nowhere; margin = none; spacing = none; limit = none }

unfoldable pub container_in : List ℕ → Container
container_in f = cond (ltb (length f) block_bytes) blank_container (container_from f)

unfoldable pub kind_in : List ℕ → ℕ → Kind
kind_in f k = cond (leb most_kinds k) blank_kind (cond (ltb (length f) (kind_place k + kind_bytes)) blank_kind (kind_from f (kind_place k)))

unfoldable pub line_in : List ℕ → ℕ → ℕ → Line
line_in f start i =
    cond (leb most_lines i) blank_line
    (cond (ltb most_bytes start) blank_line
    (cond (ltb (length f) (start + i * line_bytes + line_bytes)) blank_line (line_from f (start + i * line_bytes))))

unfoldable pub unplaced_in : List ℕ → ℕ → ℕ → ℕ
unplaced_in f start i =
    cond (leb most_unplaced i) 0
    (cond (ltb most_bytes start) 0
    (cond (ltb (length f) (start + i * id_bytes + id_bytes)) 0 (u32_at f (start + i * id_bytes))))

-- ---- what the sections say

pub sections_right : (f : List ℕ) → right_shape f ≡ true → sections_of f ≡ Some (record { many = counts_of f; start = lines_start f; end = unplaced_start f })
unfolding sections_of
sections_right f h = rw h

pub wrong_sections : (f : List ℕ) → right_shape f ≡ false → None ≡ sections_of f
unfolding sections_of
wrong_sections f h = rw h

-- by the starts that were read
pub right_sections : (f : List ℕ) (l u : ℕ) → right_shape f ≡ true → l ≡ lines_start f → u ≡ unplaced_start f
    → Some
    (record {
      many = record { kinds = (l - block_bytes) / kind_bytes; lines = (u - l) / line_bytes; unplaced = (trailer f - u) / id_bytes };
      start = l;
      end = u;
    })
    ≡ sections_of f
unfolding counts_of
right_sections f l u h el eu = rw (el, eu) (sym (sections_right f h))

pub record Right (f : List ℕ) (s : Sections) : Type 0 where
  pub shape : right_shape f ≡ true
  pub many_are : s.many ≡ counts_of f
  pub start_is : s.start ≡ lines_start f
  pub end_is : s.end ≡ unplaced_start f

pub right_says : (f : List ℕ) (s : Sections) → Some s ≡ sections_of f → Right f s
right_says f s e = go (right_shape f) refl
  where
    go : (b : Bool) → right_shape f ≡ b → Right f s
    go true h =
        let q : s ≡ record { many = counts_of f; start = lines_start f; end = unplaced_start f } = cc (e, sections_right f h) in
        rw q (record { shape = h; many_are = refl; start_is = refl; end_is = refl })
    go false h = absurd (cc (e, wrong_sections f h))

pub wrong_says : (f : List ℕ) → None ≡ sections_of f → right_shape f ≡ false
wrong_says f e = go (right_shape f) refl
  where
    go : (b : Bool) → right_shape f ≡ b → right_shape f ≡ false
    go true h = absurd (cc (e, sections_right f h))
    go false h = h

-- the counts of a file of the right shape
pub counts_right_in : (f : List ℕ) → right_shape f ≡ true → counts_in f ≡ counts_of f
unfolding counts_in
counts_right_in f h = rw h

-- ---- of a file of the right shape with counts within their bounds, record k of the bytes is record k of the sheet

pub record Readable (f : List ℕ) : Type 0 where
  pub shape : right_shape f ≡ true
  pub counts_right : over_count (counts_of f) ≡ false

pub bounds : (f : List ℕ) → Readable f → Few (counts_of f)
bounds f r = few (counts_of f) r.counts_right

inside : (f : List ℕ) → Readable f → Within f (counts_of f)
inside f r = within f (counts_of f) r.shape refl

pub many_is : (f : List ℕ) → counts_of f ≡ (sheet_of f).many
unfolding sheet_of
many_is f = refl

pub container_is : (f : List ℕ) → Readable f → container_in f ≡ (sheet_of f).container
unfolding container_in sheet_of
container_is f r = rw (le-ltb (length f) block_bytes (inside f r).block_in)

pub kind_is : (f : List ℕ) (k : ℕ) → Readable f → k < (counts_of f).kinds → kind_in f k ≡ kind_at (sheet_of f) k
unfolding kind_in sheet_of
kind_is f k r l =
    let b = bounds f r in
    let w = inside f r in
    rw (lt-leb most_kinds k (omega arith), le-ltb (length f) (kind_place k + kind_bytes) (omega arith)) (sym (kinds_at f (counts_of f).kinds k b.kinds l))

pub line_is : (f : List ℕ) (start i : ℕ) → Readable f → start ≡ lines_start f → i < (counts_of f).lines → line_in f start i ≡ line_at (sheet_of f) i
unfolding line_in sheet_of
line_is f start i r e l =
    let b = bounds f r in
    let w = inside f r in
    let s = shaped f r.shape in
    rw e
    (rw (lt-leb most_lines i (omega arith), le-ltb most_bytes (lines_start f) (omega arith), le-ltb (length f) (line_place f i + line_bytes) (omega arith))
    (sym (lines_at f (lines_start f) (counts_of f).lines i b.lines l)))

pub unplaced_is : (f : List ℕ) (start i : ℕ) → Readable f → start ≡ unplaced_start f → i < (counts_of f).unplaced
    → unplaced_in f start i ≡ unplaced_at (sheet_of f) i
unfolding unplaced_in sheet_of
unplaced_is f start i r e l =
    let b = bounds f r in
    let w = inside f r in
    let s = shaped f r.shape in
    rw e
    (rw (lt-leb most_unplaced i (omega arith), le-ltb most_bytes (unplaced_start f) (omega arith), le-ltb (length f) (id_place f i + id_bytes) (omega arith))
    (sym (ids_at f (unplaced_start f) (counts_of f).unplaced i b.unplaced l)))
