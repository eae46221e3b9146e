-- Reading then writing gives the same bytes: for every accepted file the sheet that it says is written as that file. RULES: Load file
use Rattle.std.specs.Prelude.{ℕ, ◌+◌, ◌*◌, ◌≤◌, ◌<◌, ◌≡◌, refl, not, List, [], ◌∷◌, length, get_or}
use Rattle.std.proofs.Common.{sym, ap, ◌∙◌, arith}
use Rattle.std.specs.Float.{binary64}
use Rattle.std.specs.Float.Ieee.Bits.{to_bits-of_bits}
use Rattle.domain.specs.Bounds.{most_kinds, most_lines, most_unplaced}
use Rattle.domain.specs.Refusals.{when}
use Rattle.lists.specs.Bools.{not_true_of}
use Rattle.domain.specs.Laws.{or_else_first, when_none}
use Rattle.sheet.specs.declared.Counts.{Counts}
use Rattle.sheet.specs.Sheets.{no_kind, no_line}
use Rattle.sheet.specs.Accepted.{Accepted, accepted}
use Rattle.file_bytes.specs.Bytes.{word, float, u64_at, f64_at, u32_out, part}
use Rattle.file_bytes.specs.Layout.{fields_at}
use Rattle.file_read.specs.Form.{block_fields, kind_fields, line_fields, trailer_fields, block_bytes, kind_bytes, line_bytes, id_bytes, trailer_bytes}
use Rattle.file_read.specs.Form.{trailer, trailer_of, lines_start, unplaced_start, trailer_start, right_shape, counts_of}
use Rattle.file_read.specs.Reading.{container_of, kind_of, line_of, container_from, kind_from, line_from, kind_place, kinds_of, lines_of, ids_of, sheet_of}
use Rattle.file_read.specs.Reading.{refusal_of}
use Rattle.file_read.specs.Refusal.{sheet_sound}
use Rattle.file_write.specs.Writing.{bits_of, container_numbers, kind_numbers, line_numbers, trailer_numbers, container_out, kind_out, line_out, trailer_out}
use Rattle.file_write.specs.Writing.{kinds_out, lines_out, ids_out, lines_from, unplaced_from, trailer_from, file_of}
use Rattle.file_laws.specs.Parts.{Bytes, joined, part_all, number_below, bytes_number}
use Rattle.file_laws.specs.Fields.{record_back}
use Rattle.file_read.specs.Tables.{kinds_at, lines_at, ids_at}
use Rattle.file_laws.specs.Sections.{all_is_part}
use Rattle.file_read.specs.Shaped.{Shaped, shaped}
use Rattle.file_laws.specs.Numbers.{IsNumber, Numbers, ContainerNumbers, KindNumbers, container_numbers_lem, kind_numbers_lem, line_numbers_lem}

-- ---- records: the numbers of what was read are those that stand there, so it is written as the bytes there

seven : {a b c d e g h a' b' c' d' e' g' h' : ℕ} → a ≡ a' → b ≡ b' → c ≡ c' → d ≡ d' → e ≡ e' → g ≡ g' → h ≡ h'
    → a ∷ b ∷ c ∷ d ∷ e ∷ g ∷ h ∷ [] ≡ a' ∷ b' ∷ c' ∷ d' ∷ e' ∷ g' ∷ h' ∷ []
seven ea eb ec ed ee eg eh = rw (ea, eb, ec, ed, ee, eg, eh)

module _ (f : List ℕ) (bytes : Bytes f) where
  -- the bits of a float that is read there
  bits_back : (p : ℕ) → IsNumber (f64_at f p) → bits_of (f64_at f p) ≡ u64_at f p
  bits_back p n = to_bits-of_bits binary64 (u64_at f p) (number_below float f p bytes) n

  container_same : ContainerNumbers (container_from f) → container_numbers (container_from f) ≡ fields_at block_fields f 0 0
  unfolding container_numbers container_from container_of fields_at
  container_same n =
      rw (bits_back _ n.size.wide, bits_back _ n.size.deep, bits_back _ n.size.high)
      (rw (bits_back _ n.margin, bits_back _ n.spacing, bits_back _ n.limit))

  kind_same : (p : ℕ) → KindNumbers (kind_from f p) → kind_numbers (kind_from f p) ≡ fields_at kind_fields f p 0
  unfolding kind_numbers kind_from kind_of fields_at
  kind_same p n = rw (bits_back _ n.size.wide, bits_back _ n.size.deep, bits_back _ n.size.high, bits_back _ n.mass)

  line_same : (p : ℕ) → Numbers (line_from f p).at → line_numbers (line_from f p) ≡ fields_at line_fields f p 0
  unfolding line_numbers line_from line_of fields_at
  line_same p n = rw (bits_back _ n.wide, bits_back _ n.deep, bits_back _ n.high)

  container_back : block_bytes ≤ length f → ContainerNumbers (container_from f) → container_out (container_from f) ≡ part f 0 block_bytes
  unfolding container_out
  container_back l n = rw (container_same n) (record_back block_fields f 0 bytes l)

  kind_back : (p : ℕ) → p + kind_bytes ≤ length f → KindNumbers (kind_from f p) → kind_out (kind_from f p) ≡ part f p kind_bytes
  unfolding kind_out
  kind_back p l n = rw (kind_same p n) (record_back kind_fields f p bytes l)

  line_back : (p : ℕ) → p + line_bytes ≤ length f → Numbers (line_from f p).at → line_out (line_from f p) ≡ part f p line_bytes
  unfolding line_out
  line_back p l n = rw (line_same p n) (record_back line_fields f p bytes l)

  -- the numbers that a trailer has to have are those of the trailer of a file of the right shape
  trailer_same : Shaped f → trailer_numbers (counts_of f) ≡ trailer_of f
  unfolding trailer_numbers trailer_of fields_at
  trailer_same h =
      let p = h.placed_right in
      let l : lines_from (counts_of f) ≡ lines_start f = h.kinds_end in
      let u : unplaced_from (counts_of f) ≡ unplaced_start f = omega (arith, h) in
      let t : trailer_from (counts_of f) ≡ trailer_start f = omega (arith, h) in
      seven (sym p.first) l u t (sym p.version) (sym p.letter) (sym p.letter')

  trailer_back : Shaped f → trailer_out (counts_of f) ≡ part f (trailer f) trailer_bytes
  unfolding trailer_out trailer_of
  trailer_back h = rw (trailer_same h) (record_back trailer_fields f (trailer f) bytes (omega (arith, h.long)))

-- ---- sections

module _ (f : List ℕ) (bytes : Bytes f) where
  kinds_back : (n : ℕ) → n ≤ most_kinds → block_bytes + n * kind_bytes ≤ length f → ((k : ℕ) → k < n → KindNumbers (get_or (kinds_of f n) k no_kind)) →
      kinds_out (kinds_of f n) n ≡ part f block_bytes (n * kind_bytes)
  unfolding kinds_out
  kinds_back n m r h = all_is_part (λ k. kind_out (get_or (kinds_of f n) k no_kind)) f block_bytes kind_bytes n one
    where
      one : (k : ℕ) → k < n → kind_out (get_or (kinds_of f n) k no_kind) ≡ part f (block_bytes + k * kind_bytes) kind_bytes
      one k l =
          let e = kinds_at f n k m l in
          rw e (kind_back f bytes (kind_place k) (omega arith) (rw e at (h k l)))

  lines_back : (start n : ℕ) → n ≤ most_lines → start + n * line_bytes ≤ length f → ((i : ℕ) → i < n → Numbers (get_or (lines_of f start n) i no_line).at) →
      lines_out (lines_of f start n) n ≡ part f start (n * line_bytes)
  unfolding lines_out
  lines_back start n m r h = all_is_part (λ i. line_out (get_or (lines_of f start n) i no_line)) f start line_bytes n one
    where
      one : (i : ℕ) → i < n → line_out (get_or (lines_of f start n) i no_line) ≡ part f (start + i * line_bytes) line_bytes
      one i l =
          let e = lines_at f start n i m l in
          rw e (line_back f bytes (start + i * line_bytes) (omega arith) (rw e at (h i l)))

  ids_back : (start n : ℕ) → n ≤ most_unplaced → start + n * id_bytes ≤ length f → ids_out (ids_of f start n) n ≡ part f start (n * id_bytes)
  unfolding ids_out
  ids_back start n m r = all_is_part (λ i. u32_out (get_or (ids_of f start n) i 0)) f start id_bytes n one
    where
      one : (i : ℕ) → i < n → u32_out (get_or (ids_of f start n) i 0) ≡ part f (start + i * id_bytes) id_bytes
      one i l = rw (ids_at f start n i m l) (bytes_number word f (start + i * id_bytes) bytes (omega arith))

-- ---- the file

-- what is known of a file that is not refused
pub record AcceptedFile (f : List ℕ) : Type 0 where
  pub shape : Shaped f
  pub sheet : Accepted (sheet_of f)

pub accepted_file : (f : List ℕ) → refusal_of f ≡ 0 → AcceptedFile f
unfolding refusal_of
accepted_file f h =
    let wrong = not (right_shape f) in
    record {
      shape = shaped f (not_true_of (right_shape f) (when_none wrong 0 (or_else_first (when wrong 1) _ h)));
      sheet = accepted (sheet_of f) (sheet_sound f h);
    }

-- a file's length, section by section
abbrev sections : Counts → ℕ
sections m = block_bytes + (m.kinds * kind_bytes + (m.lines * line_bytes + (m.unplaced * id_bytes + trailer_bytes)))

-- the five sections of an accepted file are its own bytes
module _ (f : List ℕ) (bytes : Bytes f) (a : AcceptedFile f) where
  pub block_is : container_out (container_from f) ≡ part f 0 block_bytes
  unfolding sheet_of
  block_is = container_back f bytes (omega (arith, a.shape)) (container_numbers_lem (container_from f) a.sheet.container_right)

  pub kinds_are : kinds_out (kinds_of f (counts_of f).kinds) (counts_of f).kinds ≡ part f block_bytes ((counts_of f).kinds * kind_bytes)
  unfolding sheet_of
  kinds_are =
      kinds_back f bytes (counts_of f).kinds a.sheet.few_of.kinds (omega (arith, a.shape))
      (λ k l. kind_numbers_lem (get_or (kinds_of f (counts_of f).kinds) k no_kind) (a.sheet.kind_sound k l).measures_right)

  lines_are : lines_out (lines_of f (lines_start f) (counts_of f).lines) (counts_of f).lines ≡ part f (lines_start f) ((counts_of f).lines * line_bytes)
  unfolding sheet_of
  lines_are =
      lines_back f bytes (lines_start f) (counts_of f).lines a.sheet.few_of.lines (omega (arith, a.shape))
      (λ i l. line_numbers_lem (get_or (lines_of f (lines_start f) (counts_of f).lines) i no_line) (a.sheet.line_right i l))

  ids_are : ids_out (ids_of f (unplaced_start f) (counts_of f).unplaced) (counts_of f).unplaced ≡ part f (unplaced_start f) ((counts_of f).unplaced * id_bytes)
  unfolding sheet_of
  ids_are = ids_back f bytes (unplaced_start f) (counts_of f).unplaced a.sheet.few_of.unplaced (omega (arith, a.shape))

  sections_are : part f 0 (sections (counts_of f)) ≡ f
  sections_are = part_all f (sections (counts_of f)) (omega (arith, a.shape))

-- **reading then writing gives the same bytes**
pub read_write : (f : List ℕ) → Bytes f → refusal_of f ≡ 0 → file_of (sheet_of f) ≡ f
unfolding file_of sheet_of
read_write f bytes h =
    let a = accepted_file f h in
    let s = a.shape in
    let k = (counts_of f).kinds * kind_bytes in
    let l = (counts_of f).lines * line_bytes in
    let u = (counts_of f).unplaced * id_bytes in
    joined f 0 block_bytes block_bytes (k + (l + (u + trailer_bytes))) _ _ refl (block_is f bytes a)
    (joined f block_bytes k (lines_start f) (l + (u + trailer_bytes)) _ _ (sym s.kinds_end) (kinds_are f bytes a)
    (joined f (lines_start f) l (unplaced_start f) (u + trailer_bytes) _ _ (sym s.lines_end) (lines_are f bytes a)
    (joined f (unplaced_start f) u (trailer f) trailer_bytes _ _ (sym s.ids_end) (ids_are f bytes a) (trailer_back f bytes s))))
    ∙ sections_are f bytes a

-- **two accepted files with the same sheet are the same file**
pub same_file : (f g : List ℕ) → Bytes f → Bytes g → refusal_of f ≡ 0 → refusal_of g ≡ 0 → sheet_of f ≡ sheet_of g → f ≡ g
same_file f g bf bg hf hg e = sym (read_write f bf hf) ∙ ap file_of e ∙ read_write g bg hg
