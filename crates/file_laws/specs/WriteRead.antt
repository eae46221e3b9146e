-- Writing then reading gives the same sheet, for every sheet that is not refused; its cells past its counts, which no file says, come back blank.
use Rattle.std.specs.Prelude.{ℕ, ◌+◌, ◌-◌, ◌*◌, ◌/◌, ◌%◌, ◌≤◌, ◌<◌, ◌^◌, ◌≡◌, refl, true, List, [], ◌∷◌, length, get_or, Float}
use Rattle.std.proofs.Common.{sym, ◌∙◌, arith, le-leb, eq-eqb}
use Rattle.std.specs.Float.{binary64}
use Rattle.std.specs.Float.Ieee.{of_bits}
use Rattle.std.specs.Float.Ieee.Bits.{of_bits-to_bits, to_bits-lt}
use Rattle.floats.specs.Ops.{x, y, z}
use Rattle.domain.specs.Bounds.{most_kinds, most_lines, most_unplaced}
use Rattle.measures.specs.declared.Kind.{Kind}
use Rattle.measures.specs.declared.Container.{Container}
use Rattle.sheet.specs.declared.Counts.{Counts}
use Rattle.sheet.specs.declared.Line.{Line}
use Rattle.sheet.specs.declared.Sheet.{Sheet}
use Rattle.sheet.specs.Sheets.{kind_at, line_at, unplaced_at, sheet_refusal}
use Rattle.sheet.specs.Accepted.{Few, accepted}
use Rattle.file_bytes.specs.Bytes.{byte, half, word, float, u32_at, part}
use Rattle.file_read.specs.Form.{block_fields, kind_fields, line_fields, trailer_fields, block_bytes, kind_bytes, line_bytes, id_bytes, trailer_bytes}
use Rattle.file_read.specs.Form.{most_bytes, form, letter_l, letter_s, trailer, trailer_of, lines_start, unplaced_start, trailer_start, placed, whole}
use Rattle.file_read.specs.Form.{right_shape, counts_of}
use Rattle.file_read.specs.Reading.{container_of, kind_of, line_of, container_from, kind_from, line_from, kind_place, blank_kind, blank_line}
use Rattle.file_read.specs.Reading.{kinds_by, lines_by, ids_by, kinds_of, lines_of, ids_of, sheet_of}
use Rattle.file_write.specs.Writing.{bits_of, container_numbers, kind_numbers, line_numbers, trailer_numbers, container_out, kind_out, line_out, trailer_out}
use Rattle.file_write.specs.Writing.{lines_from, unplaced_from, trailer_from, file_of}
use Rattle.file_laws.specs.Parts.{Bytes, number_there}
use Rattle.file_laws.specs.Fields.{Fit, none, one, record_forth}
use Rattle.lists.specs.Table.{table_same}
use Rattle.file_read.specs.Shaped.{Placed, Shaped}
use Rattle.file_write.specs.Stores.{file_length_is}
use Rattle.file_laws.specs.Layout.{file_bytes, block_there, kind_there, line_there, id_there, trailer_there}
use Rattle.file_laws.specs.Typed.{Held, TypedContainer, TypedKind, TypedLine, Typed}
use Rattle.file_laws.specs.Tidy.{tidy}

-- ---- records: what was written at a place is read there

-- the three entries of a list of three
three_is : (v : List Float) → length v ≡ 3 → x v ∷ y v ∷ z v ∷ [] ≡ v
three_is [] h = absurd (omega arith)
three_is (a ∷ []) h = absurd (omega arith)
three_is (a ∷ b ∷ []) h = absurd (omega arith)
three_is (a ∷ b ∷ c ∷ []) h = refl
three_is (a ∷ b ∷ c ∷ d ∷ v) h = absurd (omega arith)

-- the bits of a float fit eight bytes, and are the float's again
bits_fit : (v : Float) → Held v → bits_of v < 256 ^ float
bits_fit v t = to_bits-lt binary64 v t

bits_again : (v : Float) → Held v → of_bits binary64 (bits_of v) ≡ v
bits_again v t = of_bits-to_bits binary64 v t

container_fit : (c : Container) → TypedContainer c → Fit block_fields (container_numbers c)
unfolding container_numbers
container_fit c t =
    one (bits_fit _ t.size.wide) (one (bits_fit _ t.size.deep) (one (bits_fit _ t.size.high)
    (one (bits_fit _ t.margin) (one (bits_fit _ t.spacing) (one (bits_fit _ t.limit) none)))))

container_again : (c : Container) → TypedContainer c → container_of (container_numbers c) ≡ c
unfolding container_of container_numbers
container_again c t =
    rw (bits_again _ t.size.wide, bits_again _ t.size.deep, bits_again _ t.size.high, three_is c.size t.size.three)
    (rw (bits_again _ t.margin, bits_again _ t.spacing, bits_again _ t.limit))

kind_fit : (k : Kind) → TypedKind k → Fit kind_fields (kind_numbers k)
unfolding kind_numbers
kind_fit k t =
    one t.id (one t.quantity (one (bits_fit _ t.size.wide) (one (bits_fit _ t.size.deep) (one (bits_fit _ t.size.high)
    (one (bits_fit _ t.mass) (one t.rule (one t.massed (one t.filler none))))))))

kind_again : (k : Kind) → TypedKind k → kind_of (kind_numbers k) ≡ k
unfolding kind_of kind_numbers
kind_again k t =
    rw (bits_again _ t.size.wide, bits_again _ t.size.deep, bits_again _ t.size.high, three_is k.size t.size.three)
    (rw (bits_again _ t.mass))

line_fit : (l : Line) → TypedLine l → Fit line_fields (line_numbers l)
unfolding line_numbers
line_fit l t =
    one t.id (one t.instance (one t.orientation (one t.bin
    (one (bits_fit _ t.at.wide) (one (bits_fit _ t.at.deep) (one (bits_fit _ t.at.high) none))))))

line_again : (l : Line) → TypedLine l → line_of (line_numbers l) ≡ l
unfolding line_of line_numbers
line_again l t =
    rw (bits_again _ t.at.wide, bits_again _ t.at.deep, bits_again _ t.at.high, three_is l.at t.at.three)

module _ (f : List ℕ) where
  container_forth : (c : Container) → part f 0 block_bytes ≡ container_out c → TypedContainer c → container_from f ≡ c
  unfolding container_from container_out
  container_forth c h t = rw (record_forth f 0 (container_fit c t) h) (container_again c t)

  kind_forth : (p : ℕ) (k : Kind) → part f p kind_bytes ≡ kind_out k → TypedKind k → kind_from f p ≡ k
  unfolding kind_from kind_out
  kind_forth p k h t = rw (record_forth f p (kind_fit k t) h) (kind_again k t)

  line_forth : (p : ℕ) (l : Line) → part f p line_bytes ≡ line_out l → TypedLine l → line_from f p ≡ l
  unfolding line_from line_out
  line_forth p l h t = rw (record_forth f p (line_fit l t) h) (line_again l t)

-- ---- the trailer

word_fit : (v : ℕ) → v ≤ most_bytes → v < 256 ^ word
word_fit v h = omega arith

module _ (s : Sheet) (few : Few s.many) where
  trailer_at : trailer (file_of s) ≡ trailer_from s.many
  trailer_at = omega (arith, file_length_is s)

  trailer_fit : Fit trailer_fields (trailer_numbers s.many)
  unfolding trailer_numbers
  trailer_fit =
      let m = s.many in
      one (word_fit block_bytes (omega arith)) (one (word_fit (lines_from m) (omega (arith, few))) (one (word_fit (unplaced_from m) (omega (arith, few)))
      (one (word_fit (trailer_from m) (omega (arith, few))) (one {w = half} {v = form} (omega arith)
      (one {w = byte} {v = letter_l} (omega arith) (one {w = byte} {v = letter_s} (omega arith) none))))))

  numbers_are : trailer_of (file_of s) ≡ trailer_numbers s.many
  unfolding trailer_of trailer_out
  numbers_are = rw trailer_at (record_forth (file_of s) (trailer_from s.many) trailer_fit (trailer_there s))

  number_is : (i : ℕ) → get_or (trailer_of (file_of s)) i 0 ≡ get_or (trailer_numbers s.many) i 0
  number_is i = rw numbers_are

  lines_start_lem : lines_start (file_of s) ≡ lines_from s.many
  unfolding trailer_numbers
  lines_start_lem = number_is 1

  unplaced_start_lem : unplaced_start (file_of s) ≡ unplaced_from s.many
  unfolding trailer_numbers
  unplaced_start_lem = number_is 2

  trailer_start_lem : trailer_start (file_of s) ≡ trailer_from s.many
  unfolding trailer_numbers
  trailer_start_lem = number_is 3

  counts_are : counts_of (file_of s) ≡ s.many
  unfolding counts_of
  counts_are =
      let k : (lines_start (file_of s) - block_bytes) / kind_bytes ≡ s.many.kinds = rw lines_start_lem (omega arith) in
      let l : (unplaced_start (file_of s) - lines_start (file_of s)) / line_bytes ≡ s.many.lines = rw (lines_start_lem, unplaced_start_lem) (omega arith) in
      let u : (trailer (file_of s) - unplaced_start (file_of s)) / id_bytes ≡ s.many.unplaced = rw (unplaced_start_lem, trailer_at) (omega arith) in
      rw (k, l, u)

  pub file_shaped : Shaped (file_of s)
  unfolding trailer_numbers
  file_shaped =
      record {
        long = omega (arith, file_length_is s);
        placed_right =
            record {
              short = omega (arith, file_length_is s, few);
              first = number_is 0;
              kinds = omega (arith, number_is 0, lines_start_lem);
              lines = omega (arith, lines_start_lem, unplaced_start_lem);
              ids = omega (arith, unplaced_start_lem, trailer_start_lem);
              last = omega (arith, trailer_start_lem, trailer_at);
              version = number_is 4;
              letter = number_is 5;
              letter' = number_is 6;
            };
        kinds_end = rw (counts_are, lines_start_lem);
        lines_end = rw (counts_are, lines_start_lem, unplaced_start_lem);
        ids_end = rw (counts_are, unplaced_start_lem) (sym trailer_at);
      }

-- the facts of a shape are its tests
placed_of : (n k l u t v a b : ℕ) → Placed n k l u t v a b → placed n k l u t v a b ≡ true
unfolding placed
placed_of n k l u t v a b h =
    rw (le-leb n most_bytes h.short, eq-eqb k block_bytes h.first, le-leb k l h.kinds, le-leb l u h.lines, le-leb u t h.ids)
    (rw (eq-eqb t (n - trailer_bytes) h.last, eq-eqb v form h.version, eq-eqb a letter_l h.letter, eq-eqb b letter_s h.letter'))

pub right_shape_lem : (f : List ℕ) → Shaped f → right_shape f ≡ true
unfolding right_shape whole
right_shape_lem f h =
    let k : (lines_start f - block_bytes) % kind_bytes ≡ 0 = omega (arith, h) in
    let l : (unplaced_start f - lines_start f) % line_bytes ≡ 0 = omega (arith, h) in
    let u : (trailer_start f - unplaced_start f) % id_bytes ≡ 0 = omega (arith, h) in
    rw (le-leb trailer_bytes (length f) h.long, placed_of _ _ _ _ _ _ _ _ h.placed_right, k, l, u)

-- ---- the sheet

-- what a file says, with the counts and the two starts given
says : List ℕ → Counts → ℕ → ℕ → Sheet
says f m lines ids =
    record { many = m; container = container_from f; kinds = kinds_of f m.kinds; lines = lines_of f lines m.lines; unplaced = ids_of f ids m.unplaced }

sheet_says : (f : List ℕ) → sheet_of f ≡ says f (counts_of f) (lines_start f) (unplaced_start f)
unfolding sheet_of says
sheet_says f = refl

module _ (s : Sheet) (typed : Typed s) (few : Few s.many) where
  container_comes : container_from (file_of s) ≡ s.container
  container_comes = container_forth (file_of s) s.container (block_there s) typed.container

  kinds_come : kinds_of (file_of s) s.many.kinds ≡ (tidy s).kinds
  unfolding kinds_by tidy
  kinds_come =
      table_same blank_kind most_kinds (λ k. kind_from (file_of s) (kind_place k)) (λ k. kind_at s k) s.many.kinds
      (λ k l. kind_forth (file_of s) (kind_place k) (kind_at s k) (kind_there s k l) (typed.kind k (omega (arith, few))))

  lines_come : lines_of (file_of s) (lines_from s.many) s.many.lines ≡ (tidy s).lines
  unfolding lines_by tidy
  lines_come =
      table_same blank_line most_lines (λ i. line_from (file_of s) (lines_from s.many + i * line_bytes)) (λ i. line_at s i) s.many.lines
      (λ i l. line_forth (file_of s) (lines_from s.many + i * line_bytes) (line_at s i) (line_there s i l) (typed.line i (omega (arith, few))))

  ids_come : ids_of (file_of s) (unplaced_from s.many) s.many.unplaced ≡ (tidy s).unplaced
  unfolding ids_by tidy
  ids_come =
      table_same 0 most_unplaced (λ i. u32_at (file_of s) (unplaced_from s.many + i * id_bytes)) (λ i. unplaced_at s i) s.many.unplaced
      (λ i l. number_there word (file_of s) (unplaced_from s.many + i * id_bytes) (unplaced_at s i) (id_there s i l) (typed.id i (omega (arith, few))))

  sheet_comes : sheet_of (file_of s) ≡ tidy s
  unfolding says tidy
  sheet_comes =
      sheet_says (file_of s)
      ∙ rw (counts_are s few, lines_start_lem s few, unplaced_start_lem s few) (rw (container_comes, kinds_come, lines_come, ids_come))

-- **writing then reading gives the same sheet**, its cells past its counts blank
pub write_read : (s : Sheet) → Typed s → sheet_refusal s ≡ 0 → sheet_of (file_of s) ≡ tidy s
write_read s typed h = sheet_comes s typed (accepted s h).few_of

-- the file of a sheet is bytes
pub write_bytes : (s : Sheet) → Typed s → sheet_refusal s ≡ 0 → Bytes (file_of s)
write_bytes s typed h = file_bytes s
