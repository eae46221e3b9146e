-- The box that a line of an accepted sheet places is solid: its near corner is finite, and its far corner has no NaN in it.
use Rattle.std.specs.Prelude.{◌≡◌, Bool, true, false, not, ◌||◌, cond, List, [], ◌∷◌, ℕ, zero, suc, ◌<◌, T, ltb, length, get_or, Float}
use Rattle.std.proofs.Common.{sym, subst, arith, lit<, ltb-true}
use Rattle.std.specs.Float.{nan, binary64}
use Rattle.std.specs.Float.Ieee.{of_bits, le, neg, is_nan}
use Rattle.std.specs.Float.Ieee.Scale.{finite}
use Rattle.floats.specs.Ops.{◌⊕◌, x, y, z}
use Rattle.floats.specs.Numbers.{add_number, finite_number, finite_between}
use Rattle.domain.specs.Ranges.{least_length, most, is_length, is_position}
use Rattle.lists.specs.Bools.{or_left, or_right, not_true_of, and_left, and_right}
use Rattle.domain.specs.Laws.{when_none}
use Rattle.measures.specs.declared.Kind.{Kind}
use Rattle.measures.specs.Faults.{measure_fault}
use Rattle.measures.specs.Orders.{orders, share_of, order_at, turned, lengths_in}
use Rattle.sheet.specs.declared.Line.{Line}
use Rattle.sheet.specs.declared.Sheet.{Sheet}
use Rattle.sheet.specs.Sheets.{line_fault}
use Rattle.sheet.specs.Accepted.{Accepted}
use Rattle.check_pair.specs.Solid.{Solid}
use Rattle.check_packing.specs.Lines.{kind_of, known, kind_for, box_of}

-- a property of all three coordinates
abbrev All3 : (Float → Type 0) → List Float → Type 0
All3 q v = (axis : ℕ) → axis < 3 → q (get_or v axis nan)

all3 : (q : Float → Type 0) (v : List Float) → q (x v) → q (y v) → q (z v) → All3 q v
all3 q v a b c zero h = a
all3 q v a b c (suc zero) h = b
all3 q v a b c (suc (suc zero)) h = c
all3 q v a b c (suc (suc (suc n))) h = absurd (omega arith)

holds : (b : Bool) → b ≡ true → T b
holds b e = subst T (sym e) tt

-- ---- ranges

position_finite : (v : Float) → is_position v ≡ true → T (finite v)
position_finite v h =
    finite_between (neg most) v most (unfold of_bits neg in tt) (unfold of_bits in tt) (holds (le (neg most) v) (and_left (le (neg most) v) (le v most) h))
    (holds (le v most) (and_right (le (neg most) v) (le v most) h))

length_finite : (v : Float) → is_length v ≡ true → T (finite v)
length_finite v h =
    finite_between least_length v most (unfold of_bits in tt) (unfold of_bits in tt) (holds (le least_length v) (and_left (le least_length v) (le v most) h))
    (holds (le v most) (and_right (le least_length v) (le v most) h))

line_finite : (l : Line) → line_fault l ≡ 0 → All3 (λ v. T (finite v)) l.at
unfolding line_fault
line_finite l h =
    let a = not (is_position (x l.at)) in
    let b = not (is_position (y l.at)) in
    let c = not (is_position (z l.at)) in
    let e : (a || (b || c)) ≡ false = when_none (a || (b || c)) 2 h in
    let f : (b || c) ≡ false = or_right a (b || c) e in
    all3 (λ v. T (finite v)) l.at (position_finite (x l.at) (not_true_of (is_position (x l.at)) (or_left a (b || c) e)))
    (position_finite (y l.at) (not_true_of (is_position (y l.at)) (or_left b c f)))
    (position_finite (z l.at) (not_true_of (is_position (z l.at)) (or_right b c f)))

size_finite : (k : Kind) → measure_fault k ≡ false → All3 (λ v. T (finite v)) k.size
size_finite k h =
    let a = not (is_length (x k.size)) in
    let b = not (is_length (y k.size)) in
    let c = not (is_length (z k.size)) in
    let f = or_right a _ h in
    let g = or_right b _ f in
    all3 (λ v. T (finite v)) k.size (length_finite (x k.size) (not_true_of (is_length (x k.size)) (or_left a _ h)))
    (length_finite (y k.size) (not_true_of (is_length (y k.size)) (or_left b _ f)))
    (length_finite (z k.size) (not_true_of (is_length (z k.size)) (or_left c _ g)))

-- ---- turned, the lengths are the same three

abbrev AllOf : {A : Type 0} → (A → Type 0) → List A → Type 0
AllOf q [] = Unit {0}
AllOf q (v ∷ l) = q v × AllOf q l

at_any : {A : Type 0} (q : A → Type 0) (d : A) → q d → (l : List A) → AllOf q l → (i : ℕ) → q (get_or l i d)
at_any q d h [] k i = h
at_any q d h (v ∷ l) k zero = k.0
at_any q d h (v ∷ l) k (suc i) = at_any q d h l k.1 i

axis_below : (r n : ℕ) → get_or (get_or orders r []) n 0 < 3
axis_below r n = at_any (λ (row : List ℕ). get_or row n 0 < 3) [] (lit< tt) orders
    (row 0 1 2 tt tt tt, (row 0 2 1 tt tt tt, (row 1 0 2 tt tt tt, (row 1 2 0 tt tt tt, (row 2 0 1 tt tt tt, (row 2 1 0 tt tt tt, tt)))))) r
  where
    row : (a b c : ℕ) → T (ltb a 3) → T (ltb b 3) → T (ltb c 3) → get_or (a ∷ b ∷ c ∷ []) n 0 < 3
    row a b c p q r = at_any (λ (m : ℕ). m < 3) 0 (lit< tt) (a ∷ b ∷ c ∷ []) (lit< p, (lit< q, (lit< r, tt))) n

lengths_finite : (k : Kind) (i : ℕ) → measure_fault k ≡ false → All3 (λ v. T (finite v)) (lengths_in k i)
unfolding lengths_in
lengths_finite k i h = go (ltb i (length (share_of k.rule)))
  where
    go : (b : Bool) → All3 (λ v. T (finite v)) (cond b (turned k.size (order_at k.rule i)) k.size)
    go true =
        let o = order_at k.rule i in
        let r = get_or (share_of k.rule) i 0 in
        all3 (λ v. T (finite v)) (turned k.size o) (size_finite k h (get_or o 0 0) (axis_below r 0)) (size_finite k h (get_or o 1 0) (axis_below r 1))
        (size_finite k h (get_or o 2 0) (axis_below r 2))
    go false = size_finite k h

-- ---- the box

pub box_solid : (s : Sheet) → Accepted s → (l : Line) → line_fault l ≡ 0 → known s l ≡ true → Solid (box_of l (kind_for s l))
unfolding known kind_for
box_solid s a l h e =
    let k = kind_for s l in
    let size = lengths_in k l.orientation in
    let sized = lengths_finite k l.orientation (a.kind_sound (kind_of s l.id) (ltb-true (kind_of s l.id) s.many.kinds e)).measures_right in
    let near = line_finite l h in
    let ends : (n : ℕ) → n < 3 → T (not (is_nan (get_or l.at n nan ⊕ get_or size n nan))) =
    λ n m. add_number binary64 (get_or l.at n nan) (get_or size n nan) (near n m) (finite_number (get_or size n nan) (sized n m)) in
    record {
      near = all3 (λ v. T (finite v)) (box_of l k).min (near 0 (lit< tt)) (near 1 (lit< tt)) (near 2 (lit< tt));
      far = all3 (λ v. T (not (is_nan v))) (box_of l k).max (ends 0 (lit< tt)) (ends 1 (lit< tt)) (ends 2 (lit< tt));
    }
