-- The file of a sheet: it is bytes, and which bytes stand at each record's place.
use Rattle.std.specs.Prelude.{ℕ, ◌+◌, ◌*◌, ◌<◌, ◌≡◌, List, ◌++◌, length}
use Rattle.std.proofs.Math.Path.{refl}
use Rattle.std.proofs.Common.{◌∙◌, arith}
use Rattle.sheet.specs.declared.Sheet.{Sheet}
use Rattle.sheet.specs.Sheets.{kind_at, line_at, unplaced_at}
use Rattle.lists.specs.Below.{all_below}
use Rattle.file_bytes.specs.Bytes.{word, u32_out, part}
use Rattle.file_bytes.specs.Layout.{fields_out, bytes_length}
use Rattle.file_read.specs.Form.{block_fields, kind_fields, line_fields, trailer_fields, block_bytes, kind_bytes, line_bytes, id_bytes, trailer_bytes}
use Rattle.file_write.specs.Writing.{container_numbers, kind_numbers, line_numbers, trailer_numbers, container_out, kind_out, line_out, trailer_out}
use Rattle.file_write.specs.Writing.{kinds_out, lines_out, ids_out, lines_from, unplaced_from, trailer_from, file_of}
use Rattle.file_write.specs.Stores.{container_length, kind_length, line_length, trailer_length, kinds_length, lines_length, ids_length}
use Rattle.file_laws.specs.Parts.{Bytes, part_first, part_second, part_all, bytes_append, bytes_bytes}
use Rattle.file_laws.specs.Fields.{fields_bytes}
use Rattle.file_laws.specs.Sections.{all_bytes, all_part}

-- ---- bytes

-- `Bytes` under a name that is not looked through, so that the lists need not be written
record Fine (s : List ℕ) : Type 0 where
  all : Bytes s

infixr 40 ◌then◌
◌then◌ : {a b : List ℕ} → Fine a → Fine b → Fine (a ++ b)
◌then◌ {a} {b} h k = record { all = bytes_append a b h.all k.all }

fields : (ws vs : List ℕ) → Fine (fields_out ws vs)
fields ws vs = record { all = fields_bytes ws vs }

section : (g : ℕ → List ℕ) (n : ℕ) → ((k : ℕ) → k < n → Fine (g k)) → Fine (all_below g n)
section g n h = record { all = all_bytes g n (λ k l. (h k l).all) }

-- the file is bytes
pub file_bytes : (s : Sheet) → Bytes (file_of s)
unfolding file_of kinds_out lines_out ids_out container_out kind_out line_out trailer_out
file_bytes s = whole.all
  where
    whole : Fine (file_of s)
    whole =
        fields block_fields (container_numbers s.container)
        then section (λ k. kind_out (kind_at s k)) s.many.kinds (λ k l. fields kind_fields (kind_numbers (kind_at s k)))
        then section (λ i. line_out (line_at s i)) s.many.lines (λ i l. fields line_fields (line_numbers (line_at s i)))
        then section (λ i. u32_out (unplaced_at s i)) s.many.unplaced (λ i l. record { all = bytes_bytes word (unplaced_at s i) })
        then fields trailer_fields (trailer_numbers s.many)

-- ---- places

-- a part of b, behind a list of n entries
behind : (a b : List ℕ) (n p q w : ℕ) → length a ≡ n → q ≡ n + p → part (a ++ b) q w ≡ part b p w
behind a b n p q w h e = rw (e, ← h) (part_second a b p w)

module _ (s : Sheet) where
  abbrev block : List ℕ
  block = container_out s.container

  abbrev kinds : List ℕ
  kinds = kinds_out s.kinds s.many.kinds

  abbrev lines : List ℕ
  lines = lines_out s.lines s.many.lines

  abbrev ids : List ℕ
  ids = ids_out s.unplaced s.many.unplaced

  abbrev end : List ℕ
  end = trailer_out s.many

  pub block_there : part (file_of s) 0 block_bytes ≡ container_out s.container
  unfolding file_of
  block_there =
      let l = container_length s.container in
      part_first block _ 0 block_bytes (omega (arith, l)) ∙ part_all block block_bytes (omega (arith, l))

  -- what stands behind the container block, behind the kinds, behind the lines, and behind the ids
  past_block : (p q w : ℕ) → q ≡ block_bytes + p → part (file_of s) q w ≡ part (kinds ++ (lines ++ (ids ++ end))) p w
  unfolding file_of
  past_block p q w e = behind block _ block_bytes p q w (container_length s.container) e

  past_kinds : (p q w : ℕ) → q ≡ lines_from s.many + p → part (file_of s) q w ≡ part (lines ++ (ids ++ end)) p w
  past_kinds p q w e =
      past_block (s.many.kinds * kind_bytes + p) q w (omega arith)
      ∙ behind kinds _ (s.many.kinds * kind_bytes) p _ w (kinds_length s.kinds s.many.kinds) refl

  past_lines : (p q w : ℕ) → q ≡ unplaced_from s.many + p → part (file_of s) q w ≡ part (ids ++ end) p w
  past_lines p q w e =
      past_kinds (s.many.lines * line_bytes + p) q w (omega arith)
      ∙ behind lines _ (s.many.lines * line_bytes) p _ w (lines_length s.lines s.many.lines) refl

  past_ids : (p q w : ℕ) → q ≡ trailer_from s.many + p → part (file_of s) q w ≡ part end p w
  past_ids p q w e =
      past_lines (s.many.unplaced * id_bytes + p) q w (omega arith)
      ∙ behind ids _ (s.many.unplaced * id_bytes) p _ w (ids_length s.unplaced s.many.unplaced) refl

  pub kind_there : (k : ℕ) → k < s.many.kinds → part (file_of s) (block_bytes + k * kind_bytes) kind_bytes ≡ kind_out (kind_at s k)
  unfolding kinds_out
  kind_there k l =
      past_block (k * kind_bytes) (block_bytes + k * kind_bytes) kind_bytes refl
      ∙ part_first kinds _ (k * kind_bytes) kind_bytes (omega (arith, kinds_length s.kinds s.many.kinds))
      ∙ all_part (λ j. kind_out (kind_at s j)) kind_bytes s.many.kinds k (λ j. kind_length (kind_at s j)) l

  pub line_there : (i : ℕ) → i < s.many.lines → part (file_of s) (lines_from s.many + i * line_bytes) line_bytes ≡ line_out (line_at s i)
  unfolding lines_out
  line_there i l =
      past_kinds (i * line_bytes) (lines_from s.many + i * line_bytes) line_bytes refl
      ∙ part_first lines _ (i * line_bytes) line_bytes (omega (arith, lines_length s.lines s.many.lines))
      ∙ all_part (λ j. line_out (line_at s j)) line_bytes s.many.lines i (λ j. line_length (line_at s j)) l

  pub id_there : (i : ℕ) → i < s.many.unplaced → part (file_of s) (unplaced_from s.many + i * id_bytes) id_bytes ≡ u32_out (unplaced_at s i)
  unfolding ids_out
  id_there i l =
      past_lines (i * id_bytes) (unplaced_from s.many + i * id_bytes) id_bytes refl
      ∙ part_first ids _ (i * id_bytes) id_bytes (omega (arith, ids_length s.unplaced s.many.unplaced))
      ∙ all_part (λ j. u32_out (unplaced_at s j)) id_bytes s.many.unplaced i (λ j. bytes_length word (unplaced_at s j)) l

  pub trailer_there : part (file_of s) (trailer_from s.many) trailer_bytes ≡ trailer_out s.many
  trailer_there = past_ids 0 (trailer_from s.many) trailer_bytes (omega arith) ∙ part_all end trailer_bytes (omega (arith, trailer_length s.many))
