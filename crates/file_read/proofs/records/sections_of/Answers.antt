-- `records::sections_of` meets its contract: the numbers of the trailer, the tests on them, and the counts by them.
use mathlib.Core.Path.{◌≡◌, sym, ap, ◌∙◌}
use mathlib.Core.Bool.{Bool, true, false, ◌&&◌}
use mathlib.Core.List.{List, [], ◌∷◌}
use Prim.Native.Nat.{ℕ}
use native.Mathlib.Omega.{arith}
use lib.ListN.{length, get_or}
use borrow.Author.Tests.{lt-leb}
use Rattle.file_read.specs.Form.{trailer_of, whole, right_shape}
use Rattle.file_read.specs.Shaped.{Placed, placed_says, trailer_is, shape_is}
use Rattle.file_read.specs.Records.{wrong_sections, right_sections}
use Rattle.file_read.proofs.records.sections_of.Goals as goal
use Rattle.file_read.proofs.records.sections_of.Goals.{After-is_placed}

abbrev file : After-is_placed → List ℕ
file c = c.args.f.now

-- the trailer's numbers
numbers : (c : After-is_placed)
    → trailer_of (file c)
    ≡ c.u32_at-k.result
    ∷ c.u32_at-l.result
    ∷ c.u32_at-u.result
    ∷ c.u32_at-t.result
    ∷ c.u16_at-form.result
    ∷ c.byte_at-a.result
    ∷ c.byte_at-b.result
    ∷ []
numbers c =
    trailer_is (file c) _ _ _ _ _ _ _
    c.u32_at-k.ensures
    c.u32_at-l.ensures
    c.u32_at-u.ensures
    c.u32_at-t.ensures
    c.u16_at-form.ensures
    c.byte_at-a.ensures
    c.byte_at-b.ensures

-- of two tests the first decides where it fails, else the second
first_wrong : (p w r : Bool) → (p && w) ≡ r → p ≡ false → r ≡ false
first_wrong p w r e h = sym e ∙ rw h

first_right : (p w r : Bool) → (p && w) ≡ r → p ≡ true → r ≡ w
first_right p w r e h = sym e ∙ rw h

-- the shape by the two tests
abbrev wholly : After-is_placed → Bool
wholly c = whole c.u32_at-l.result c.u32_at-u.result c.u32_at-t.result

shape : (c : After-is_placed) → (c.is_placed.result && wholly c) ≡ right_shape (file c)
shape c = shape_is (file c) _ _ _ _ _ _ _ _ c.if-n-lt-TRAILER.false (numbers c) c.is_placed.ensures

misplaced : (c : After-is_placed) → c.is_placed.result ≡ false → right_shape (file c) ≡ false
misplaced c = first_wrong c.is_placed.result (wholly c) (right_shape (file c)) (shape c)

well_placed : (c : After-is_placed) → c.is_placed.result ≡ true → right_shape (file c) ≡ wholly c
well_placed c = first_right c.is_placed.result (wholly c) (right_shape (file c)) (shape c)

right_place : (c : After-is_placed)
    → c.is_placed.result ≡ true
    → Placed (length (file c)) c.u32_at-k.result c.u32_at-l.result c.u32_at-u.result c.u32_at-t.result c.u16_at-form.result c.byte_at-a.result c.byte_at-b.result
right_place c h = placed_says _ _ _ _ _ _ _ _ (sym c.is_placed.ensures ∙ h)

pub returns-then-n-lt-TRAILER : goal.returns-then-n-lt-TRAILER
unfolding right_shape
returns-then-n-lt-TRAILER c = wrong_sections _ (rw (lt-leb _ _ c.if-n-lt-TRAILER.true))

pub returns-then-not-is_placed : goal.returns-then-not-is_placed
returns-then-not-is_placed c =
    wrong_sections _ (misplaced (goal.at.returns-then-not-is_placed c).After-is_placed c.if-not-is_placed.true)

pub is_whole-requires : goal.is_whole-requires
is_whole-requires c =
    let h = right_place (goal.at.is_whole-requires c).After-is_placed c.if-not-is_placed.false in
    (omega arith, (omega arith, omega arith))

pub returns-then-not-is_whole : goal.returns-then-not-is_whole
returns-then-not-is_whole c =
    wrong_sections _ (well_placed (goal.at.returns-then-not-is_whole c).After-is_placed c.if-not-is_placed.false ∙ sym c.is_whole.ensures ∙ c.if-not-is_whole.true)

pub overflow_sub-many : goal.overflow_sub-many
overflow_sub-many c = let h = right_place (goal.at.overflow_sub-many c).After-is_placed c.if-not-is_placed.false in omega arith

pub overflow_sub-many-2 : goal.overflow_sub-many-2
overflow_sub-many-2 c = let h = right_place (goal.at.overflow_sub-many-2 c).After-is_placed c.if-not-is_placed.false in omega arith

pub overflow_sub-many-3 : goal.overflow_sub-many-3
overflow_sub-many-3 c = let h = right_place (goal.at.overflow_sub-many-3 c).After-is_placed c.if-not-is_placed.false in omega arith

pub returns : goal.returns
returns c =
    let w = (goal.at.returns c).After-is_placed in
    let n = numbers w in
    right_sections _ _ _
    (well_placed w c.if-not-is_placed.false ∙ sym c.is_whole.ensures ∙ c.if-not-is_whole.false)
    (sym (ap (λ (v : List ℕ). get_or v 1 0) n)) (sym (ap (λ (v : List ℕ). get_or v 2 0) n))
