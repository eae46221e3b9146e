-- What is read out of an accepted file's bytes is what stands on its sheet.
use mathlib.Core.Path.{◌≡◌, refl, ap, ◌∙◌}
use mathlib.Core.Bool.{Bool, true, false, ◌&&◌}
use mathlib.Core.List.{List}
use Prim.Native.Nat.{ℕ, ◌<◌, ◌≤◌}
use native.Mathlib.Omega.{arith}
use borrow.Author.Tests.{ltb-true, lt-ltb}
use lib.Dec.{ltb}
use lib.ListN.{get_or}
use lib.Ieee.{Float}
use Rattle.domain.specs.Bounds.{most_kinds, most_boxes, most_lines, most_unplaced, place_within}
use Rattle.measures.specs.declared.Kind.{Kind}
use Rattle.sheet.specs.declared.Counts.{Counts}
use Rattle.sheet.specs.declared.Line.{Line}
use Rattle.sheet.specs.Sheets.{kind_at, line_at}
use Rattle.sheet.specs.Accepted.{Accepted, accepted}
use Rattle.file_read.specs.Reading.{sheet_of}
pub use Rattle.file_read.specs.Refusal.{sheet_sound}
use Rattle.file_read.specs.Records.{kind_in, bounds, many_is, kind_is}
use Rattle.file_accept.specs.Accept.{Taken}
use Rattle.check_pair.specs.declared.Extent.{Extent}
use Rattle.check_packing.specs.Lines.{kind_of, known, kind_for, in_range, counted, box_of, mass_with, mass_below}
use Rattle.check_packing.specs.Columns.{kind_many, kind_first, place_below, Ids, kind_named, box_read}
use Rattle.check_packing.proofs.Places.{place_kind}
use Rattle.file_accept.specs.declared as taking

module _ (f : List ℕ) (a : taking.Accepted.Accepted) (t : Taken f a) where
  pub sound : Accepted (sheet_of f)
  sound = accepted (sheet_of f) (sheet_sound f t.sound)

  pub kinds_are : a.kinds ≡ (sheet_of f).many.kinds
  kinds_are = t.kinds_are ∙ ap (λ (c : Counts). c.kinds) (many_is f)

  pub lines_are : a.lines ≡ (sheet_of f).many.lines
  lines_are = t.lines_are ∙ ap (λ (c : Counts). c.lines) (many_is f)

  pub unplaced_are : a.unplaced ≡ (sheet_of f).many.unplaced
  unplaced_are = t.unplaced_are ∙ ap (λ (c : Counts). c.unplaced) (many_is f)

  pub few_kinds : a.kinds ≤ most_kinds
  few_kinds = rw t.kinds_are (bounds f t.can_read).kinds

  pub few_boxes : kind_first (sheet_of f) a.kinds ≤ most_boxes
  unfolding kind_first
  few_boxes = rw kinds_are sound.boxes_few

  pub few_lines : a.lines ≤ most_lines
  few_lines = rw t.lines_are (bounds f t.can_read).lines

  pub few_unplaced : a.unplaced ≤ most_unplaced
  few_unplaced = rw t.unplaced_are (bounds f t.can_read).unplaced

  pub kind_read : (k : ℕ) → k < a.kinds → kind_in f k ≡ kind_at (sheet_of f) k
  kind_read k l = kind_is f k t.can_read (rw t.kinds_are at l)

  -- the place of an id among the columns' is that of its kind
  pub place_read : (ids : List ℕ) → Ids (sheet_of f) a.kinds ids → (id w : ℕ) → w ≡ place_below ids id a.kinds → w ≡ kind_of (sheet_of f) id
  place_read ids h id w e = e ∙ place_kind (sheet_of f) ids id a.kinds h ∙ rw kinds_are

  module _ (i : ℕ) (line : Line) (el : line ≡ line_at (sheet_of f) i) (w : ℕ) (ew : w ≡ kind_named (sheet_of f) i) (k : Kind) (ek : k ≡ kind_in f w) where
    pub box_read_lem : (e : Extent) → e ≡ box_of line k → e ≡ box_read f i
    unfolding box_read
    box_read_lem e h =
        h ∙ ap (λ (v : Line). box_of v k) el ∙ ap (λ (v : Kind). box_of (line_at (sheet_of f) i) v) (ek ∙ ap (kind_in f) ew)

    -- the mass with one line more
    pub mass_read : (r m : Float) → m ≡ mass_below (sheet_of f) i → r ≡ mass_with m (ltb w a.kinds) k
        → r ≡ mass_with (mass_below (sheet_of f) i) (known (sheet_of f) (line_at (sheet_of f) i)) (kind_for (sheet_of f) (line_at (sheet_of f) i))
    unfolding known kind_for kind_named
    mass_read r m em h = h ∙ rw em (rw (kinds_are, ew) (go (ltb (kind_of (sheet_of f) (line_at (sheet_of f) i).id) (sheet_of f).many.kinds) refl))
      where
        go : (b : Bool) → ltb (kind_of (sheet_of f) (line_at (sheet_of f) i).id) (sheet_of f).many.kinds ≡ b
            → mass_with (mass_below (sheet_of f) i) b k
            ≡ mass_with (mass_below (sheet_of f) i) b (kind_at (sheet_of f) (kind_of (sheet_of f) (line_at (sheet_of f) i).id))
        go true e =
            let l = ltb-true (kind_of (sheet_of f) (line_at (sheet_of f) i).id) (sheet_of f).many.kinds e in
            let q : kind_in f w ≡ kind_at (sheet_of f) (kind_of (sheet_of f) (line_at (sheet_of f) i).id) =
            rw ew (kind_read (kind_of (sheet_of f) (line_at (sheet_of f) i).id) (rw kinds_are l)) in
            ap (mass_with (mass_below (sheet_of f) i) true) (ek ∙ q)
        go false e = refl

  -- whether line i counts, by the columns
  pub counts_read : (many : List ℕ) → ((k : ℕ) → k < a.kinds → get_or many k 0 ≡ kind_many (sheet_of f) k)
      → (i : ℕ) (line : Line) → line ≡ line_at (sheet_of f) i
      → (w w₁ : ℕ) → w ≡ kind_named (sheet_of f) i → w₁ ≡ place_within w
      → (ltb w a.kinds && ltb line.instance (get_or many w₁ 0)) ≡ counted (sheet_of f) (line_at (sheet_of f) i)
  unfolding counted known kind_for kind_named kind_many place_within
  counts_read many h i line el w w₁ ew e₁ = rw el (go (ltb w a.kinds) refl)
    where
      go : (b : Bool) → ltb w a.kinds ≡ b
          → (b && ltb (line_at (sheet_of f) i).instance (get_or many w₁ 0))
          ≡ (ltb (kind_of (sheet_of f) (line_at (sheet_of f) i).id) (sheet_of f).many.kinds && in_range (line_at (sheet_of f) i)
          (kind_at (sheet_of f) (kind_of (sheet_of f) (line_at (sheet_of f) i).id)))
      go true e =
          let l : w < a.kinds = ltb-true w a.kinds e in
          let m = few_kinds in
          let x : w₁ ≡ w = e₁ ∙ rw (lt-ltb w most_kinds (omega arith)) in
          rw (x, h w l) (rw (← ew, ← kinds_are, e))
      go false e = rw (← ew, ← kinds_are, e)
