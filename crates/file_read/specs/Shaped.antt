-- What is known of a file of the right shape.
use Rattle.std.specs.Prelude.{◌≡◌, Bool, true, ◌&&◌, List, [], ◌∷◌, ℕ, ◌+◌, ◌-◌, ◌*◌, ◌≤◌, ◌%◌, leb, eqb, length, get_or}
use Rattle.std.proofs.Common.{arith, leb-true, eqb-true, le-leb}
use Rattle.lists.specs.Bools.{and_left, and_right}
use Rattle.sheet.specs.declared.Counts.{Counts}
use Rattle.file_bytes.specs.Bytes.{byte_at, u16_at, u32_at}
use Rattle.file_bytes.specs.Layout.{fields_at}
use Rattle.file_read.specs.Form.{block_bytes, kind_bytes, line_bytes, id_bytes, trailer_bytes, most_bytes, form, letter_l, letter_s}
use Rattle.file_read.specs.Form.{trailer, trailer_of, lines_start, unplaced_start, trailer_start, placed, placed_by, whole, right_shape, counts_of}

-- what a right placing says of the starts, the form and the last bytes
pub record Placed (n k l u t v a b : ℕ) : Type 0 where
  pub short : n ≤ most_bytes
  pub first : k ≡ block_bytes
  pub kinds : k ≤ l
  pub lines : l ≤ u
  pub ids : u ≤ t
  pub last : t ≡ n - trailer_bytes
  pub version : v ≡ form
  pub letter : a ≡ letter_l
  pub letter' : b ≡ letter_s

pub placed_says : (n k l u t v a b : ℕ) → placed n k l u t v a b ≡ true → Placed n k l u t v a b
unfolding placed
placed_says n k l u t v a b h =
    let h₁ = and_right (leb n most_bytes) _ h in
    let h₂ = and_right (eqb k block_bytes) _ h₁ in
    let h₃ = and_right (leb k l) _ h₂ in
    let h₄ = and_right (leb l u) _ h₃ in
    let h₅ = and_right (leb u t) _ h₄ in
    let h₆ = and_right (eqb t (n - trailer_bytes)) _ h₅ in
    let h₇ = and_right (eqb v form) _ h₆ in
    record {
      short = leb-true n most_bytes (and_left _ _ h);
      first = eqb-true k block_bytes (and_left _ _ h₁);
      kinds = leb-true k l (and_left _ _ h₂);
      lines = leb-true l u (and_left _ _ h₃);
      ids = leb-true u t (and_left _ _ h₄);
      last = eqb-true t (n - trailer_bytes) (and_left _ _ h₅);
      version = eqb-true v form (and_left _ _ h₆);
      letter = eqb-true a letter_l (and_left _ _ h₇);
      letter' = eqb-true b letter_s (and_right (eqb a letter_l) _ h₇);
    }

-- the same of a trailer's numbers
abbrev pub PlacedBy : ℕ → List ℕ → Type 0
PlacedBy n v = Placed n (get_or v 0 0) (get_or v 1 0) (get_or v 2 0) (get_or v 3 0) (get_or v 4 0) (get_or v 5 0) (get_or v 6 0)

-- the sections follow one another without a gap, from the container block to the trailer
pub record Shaped (f : List ℕ) : Type 0 where
  pub long : trailer_bytes ≤ length f
  pub placed_right : PlacedBy (length f) (trailer_of f)
  pub kinds_end : block_bytes + (counts_of f).kinds * kind_bytes ≡ lines_start f
  pub lines_end : lines_start f + (counts_of f).lines * line_bytes ≡ unplaced_start f
  pub ids_end : unplaced_start f + (counts_of f).unplaced * id_bytes ≡ trailer f

pub shaped : (f : List ℕ) → right_shape f ≡ true → Shaped f
unfolding right_shape whole counts_of
shaped f h =
    let q = and_right (leb trailer_bytes (length f)) _ h in
    let p = placed_says _ _ _ _ _ _ _ _ (and_left _ _ q) in
    let w = and_right (placed_by (length f) (trailer_of f)) _ q in
    let w₁ = and_right (eqb ((lines_start f - block_bytes) % kind_bytes) 0) _ w in
    let a = eqb-true ((lines_start f - block_bytes) % kind_bytes) 0 (and_left _ _ w) in
    let b = eqb-true ((unplaced_start f - lines_start f) % line_bytes) 0 (and_left _ _ w₁) in
    let c = eqb-true ((trailer_start f - unplaced_start f) % id_bytes) 0 (and_right (eqb ((unplaced_start f - lines_start f) % line_bytes) 0) _ w₁) in
    record {
      long = leb-true trailer_bytes (length f) (and_left _ _ h);
      placed_right = p;
      kinds_end = omega arith;
      lines_end = omega arith;
      ids_end = omega arith;
    }

-- the trailer by the numbers that were read there, and the shape by the tests on them
pub trailer_is : (f : List ℕ) (k l u t v a b : ℕ)
    → k ≡ u32_at f (trailer f + 0) → l ≡ u32_at f (trailer f + 4) → u ≡ u32_at f (trailer f + 8) → t ≡ u32_at f (trailer f + 12)
    → v ≡ u16_at f (trailer f + 16) → a ≡ byte_at f (trailer f + 18) → b ≡ byte_at f (trailer f + 19)
    → trailer_of f ≡ k ∷ l ∷ u ∷ t ∷ v ∷ a ∷ b ∷ []
unfolding trailer_of fields_at
trailer_is f k l u t v a b ek el eu et ev ea eb = rw (ek, el, eu, et, ev, ea, eb)

pub shape_is : (f : List ℕ) (k l u t v a b : ℕ) (p : Bool) → trailer_bytes ≤ length f → trailer_of f ≡ k ∷ l ∷ u ∷ t ∷ v ∷ a ∷ b ∷ []
    → p ≡ placed (length f) k l u t v a b → (p && whole l u t) ≡ right_shape f
unfolding right_shape
shape_is f k l u t v a b p long e ep = rw (le-leb trailer_bytes (length f) long, e, ep)

-- the sections that these counts give lie within the file
pub record Within (f : List ℕ) (m : Counts) : Type 0 where
  pub block_in : block_bytes ≤ length f
  pub kinds_in : block_bytes + m.kinds * kind_bytes ≤ length f
  pub lines_in : lines_start f + m.lines * line_bytes ≤ length f
  pub ids_in : unplaced_start f + m.unplaced * id_bytes ≤ length f

pub within : (f : List ℕ) (m : Counts) → right_shape f ≡ true → m ≡ counts_of f → Within f m
within f m h e =
    let s = shaped f h in
    rw e (record { block_in = omega arith; kinds_in = omega arith; lines_in = omega arith; ids_in = omega arith })
