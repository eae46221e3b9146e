-- What the types of a sheet's fields promise of any sheet that a program holds.
use Rattle.std.specs.Prelude.{ℕ, ◌^◌, ◌<◌, ◌≡◌, refl, List, [], ◌∷◌, T, length, Float}
use Rattle.std.proofs.Common.{arith}
use Rattle.std.specs.Float.{binary64}
use Rattle.std.specs.Float.Ieee.{fits}
use Rattle.std.specs.Float.Ieee.Bits.{of_bits-fits}
use Rattle.floats.specs.Ops.{x, y, z, nowhere}
use Rattle.domain.specs.Bounds.{most_kinds, most_lines, most_unplaced}
use Rattle.measures.specs.declared.Kind.{Kind}
use Rattle.measures.specs.declared.Container.{Container}
use Rattle.sheet.specs.declared.Line.{Line}
use Rattle.sheet.specs.declared.Sheet.{Sheet}
use Rattle.sheet.specs.Sheets.{no_kind, no_line, kind_at, line_at, unplaced_at}
use Rattle.sheet.specs.Accepted.{Few}
use Rattle.file_bytes.specs.Bytes.{byte, half, word, u32_at, u64_at, f64_at}
use Rattle.file_bytes.specs.Layout.{fields_at}
use Rattle.file_read.specs.Form.{counts_of}
use Rattle.file_read.specs.Reading.{container_of, kind_of, line_of, container_from, kind_from, line_from, kind_place, line_place, id_place}
use Rattle.file_read.specs.Reading.{blank_kind, blank_line, kinds_by, lines_by, ids_by, sheet_of}
use Rattle.file_laws.specs.Parts.{Bytes, number_below}
use Rattle.lists.specs.Table.{table_length, table_each}

-- an f64
abbrev pub Held : Float → Type 0
Held v = T (fits binary64 v)

-- a [f64; 3]
pub record TypedVector (v : List Float) : Type 0 where
  pub three : length v ≡ 3
  pub wide : Held (x v)
  pub deep : Held (y v)
  pub high : Held (z v)

pub record TypedContainer (c : Container) : Type 0 where
  pub size : TypedVector c.size
  pub margin : Held c.margin
  pub spacing : Held c.spacing
  pub limit : Held c.limit

pub record TypedKind (k : Kind) : Type 0 where
  pub id : k.id < 2 ^ 32
  pub quantity : k.quantity < 2 ^ 32
  pub size : TypedVector k.size
  pub mass : Held k.mass
  pub rule : k.rule < 2 ^ 8
  pub massed : k.massed < 2 ^ 8
  pub filler : k.filler < 2 ^ 16

pub record TypedLine (l : Line) : Type 0 where
  pub id : l.id < 2 ^ 32
  pub instance : l.instance < 2 ^ 32
  pub orientation : l.orientation < 2 ^ 32
  pub bin : l.bin < 2 ^ 32
  pub at : TypedVector l.at

pub record Typed (s : Sheet) : Type 0 where
  pub container : TypedContainer s.container
  pub kinds : length s.kinds ≡ most_kinds
  pub lines : length s.lines ≡ most_lines
  pub unplaced : length s.unplaced ≡ most_unplaced
  pub kind : (k : ℕ) → k < most_kinds → TypedKind (kind_at s k)
  pub line : (i : ℕ) → i < most_lines → TypedLine (line_at s i)
  pub id : (i : ℕ) → i < most_unplaced → unplaced_at s i < 2 ^ 32

-- ---- what a file says is such a sheet

f64_held : (f : List ℕ) (p : ℕ) → Held (f64_at f p)
f64_held f p = of_bits-fits binary64 (u64_at f p)

three_typed : (f : List ℕ) (p q r : ℕ) → TypedVector (f64_at f p ∷ f64_at f q ∷ f64_at f r ∷ [])
three_typed f p q r = record { three = refl; wide = f64_held f p; deep = f64_held f q; high = f64_held f r }

blank_typed : TypedVector nowhere
blank_typed = record { three = refl; wide = of_bits-fits binary64 0; deep = of_bits-fits binary64 0; high = of_bits-fits binary64 0 }

container_typed : (f : List ℕ) → TypedContainer (container_from f)
unfolding container_from container_of fields_at
container_typed f = record { size = three_typed f _ _ _; margin = f64_held f _; spacing = f64_held f _; limit = f64_held f _ }

module _ (f : List ℕ) (bytes : Bytes f) where
  kind_typed : (p : ℕ) → TypedKind (kind_from f p)
  unfolding kind_from kind_of fields_at
  kind_typed p =
      record {
        id = number_below word f _ bytes;
        quantity = number_below word f _ bytes;
        size = three_typed f _ _ _;
        mass = f64_held f _;
        rule = number_below byte f _ bytes;
        massed = number_below byte f _ bytes;
        filler = number_below half f _ bytes;
      }

  line_typed : (p : ℕ) → TypedLine (line_from f p)
  unfolding line_from line_of fields_at
  line_typed p =
      record {
        id = number_below word f _ bytes;
        instance = number_below word f _ bytes;
        orientation = number_below word f _ bytes;
        bin = number_below word f _ bytes;
        at = three_typed f _ _ _;
      }

blank_kind_typed : TypedKind blank_kind
blank_kind_typed =
    record {
      id = omega arith;
      quantity = omega arith;
      size = blank_typed;
      mass = of_bits-fits binary64 0;
      rule = omega arith;
      massed = omega arith;
      filler = omega arith;
    }

blank_line_typed : TypedLine blank_line
blank_line_typed = record { id = omega arith; instance = omega arith; orientation = omega arith; bin = omega arith; at = blank_typed }

pub read_typed : (f : List ℕ) → Bytes f → Few (counts_of f) → Typed (sheet_of f)
unfolding sheet_of kinds_by lines_by ids_by
read_typed f bytes few =
    let n = counts_of f in
    record {
      container = container_typed f;
      kinds = table_length blank_kind most_kinds (λ k. kind_from f (kind_place k)) n.kinds;
      lines = table_length blank_line most_lines (λ i. line_from f (line_place f i)) n.lines;
      unplaced = table_length 0 most_unplaced (λ i. u32_at f (id_place f i)) n.unplaced;
      kind =
          table_each blank_kind most_kinds TypedKind (λ k. kind_from f (kind_place k)) n.kinds no_kind few.kinds blank_kind_typed
          (λ k l. kind_typed f bytes (kind_place k));
      line =
          table_each blank_line most_lines TypedLine (λ i. line_from f (line_place f i)) n.lines no_line few.lines blank_line_typed
          (λ i l. line_typed f bytes (line_place f i));
      id =
          table_each 0 most_unplaced (λ v. v < 2 ^ 32) (λ i. u32_at f (id_place f i)) n.unplaced 0 few.unplaced (omega arith)
          (λ i l. number_below word f (id_place f i) bytes);
    }
