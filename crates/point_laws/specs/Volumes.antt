-- The volumes of an accepted order's boxes are numbers, so that the order of its boxes is the one that Falling.antt says.
use Rattle.std.specs.Prelude.{◌≡◌, refl, Bool, true, false, not, ◌||◌, ℕ, ◌*◌, ◌<◌, T, Float}
use Rattle.std.proofs.Common.{sym, ◌∙◌, ne_eqb}
use mathlib.Core.List.{List, Permᴰ}
use Rattle.std.specs.Float.{nan, inf, fin, Format, binary64}
use Rattle.std.specs.Float.Ieee.{of_bits, up, down, unlike, round, lt, le, mul, is_nan}
use Rattle.std.specs.Float.Ieee.Scale.{finite}
use Rattle.floats.specs.Ops.{none, x, y, z, ◌⊗◌}
use Rattle.floats.specs.Order.{lt_not_le, le_chain, round_signed, signed_number}
use Rattle.floats.specs.Numbers.{finite_number, finite_between}
use Rattle.floats.specs.Larger.{is_zero, none_lt_zero}
use Rattle.floats.specs.Weak.{Number, true_false}
use Rattle.domain.specs.Ranges.{least_length, most, is_length, is_measure}
use Rattle.lists.specs.Bools.{or_left, or_right, and_left, and_right, not_true_of}
use Rattle.measures.specs.declared.Kind.{Kind}
use Rattle.measures.specs.Volume.{volume}
use Rattle.measures.specs.Faults.{measure_fault}
use Rattle.sheet.specs.declared.Sheet.{Sheet}
use Rattle.sheet.specs.Sheets.{kind_at, boxes_in}
use Rattle.sheet.specs.Accepted.{Accepted}
use Rattle.plan_boxes.specs.Turns.{turn_of}
use Rattle.point_order.specs.Order.{falling_of}
use Rattle.point_run.specs.Order.{volume_of}
use Rattle.point_run.specs.Kinds.{turn_kind}
use Rattle.point_laws.specs.Falling.{up_to, Ordered, falling_ordered, only_falling}

-- ---- products

-- a length is finite, and no zero
pub record Solid (v : Float) : Type 0 where
  pub is_finite : T (finite v)
  pub not_zero : is_zero v → ⊥

length_finite : (v : Float) → T (le least_length v) → T (le v most) → T (finite v)
unfolding of_bits
length_finite v l m = finite_between least_length v most tt tt l m

length_not_under : (v : Float) → T (le least_length v) → T (le v none) → ⊥
unfolding le of_bits
length_not_under v l h = le_chain least_length v none l h

no_test : (b : Bool) → (T b → ⊥) → not b ≡ true
no_test true h = absurd (h tt)
no_test false h = refl

length_above : (v : Float) → T (le least_length v) → T (finite v) → lt none v ≡ true
unfolding of_bits is_nan
length_above v l f = lt_not_le none v tt (finite_number v f) ∙ no_test (le v none) (length_not_under v l)

solid : (v : Float) → is_length v ≡ true → Solid v
solid v e =
    let l : T (le least_length v) = rw (and_left (le least_length v) (le v most) e) tt in
    let f = length_finite v l (rw (and_right (le least_length v) (le v most) e) tt) in
    record { is_finite = f; not_zero = λ h. true_false (sym (length_above v l f) ∙ none_lt_zero v h) }

-- a number by a solid one is a number
mul_number : (f : Format) (v w : Float) → Number v → T (finite w) → (is_zero w → ⊥) → Number (mul f v w)
unfolding mul is_nan
mul_number f nan w p q h = absurd p
mul_number f (inf s) nan p q h = absurd q
mul_number f (inf s) (inf t) p q h = absurd q
mul_number f (inf s) (fin t n d) p q h = rw (ne_eqb n 0 h) tt
mul_number f (fin s m e) nan p q h = absurd q
mul_number f (fin s m e) (inf t) p q h = absurd q
mul_number f (fin s m e) (fin t n d) p q h =
    let a = m * up e * (n * up d) in
    let c = down e * down d in
    signed_number (unlike s t) (round f (unlike s t) a c) (round_signed f (unlike s t) a c)

volume_number : (k : Kind) → measure_fault k ≡ false → Number (volume k.size)
volume_number k e =
    let lx = not (is_length (x k.size)) in
    let ly = not (is_length (y k.size)) in
    let lz = not (is_length (z k.size)) in
    let m = not (is_measure k.mass) in
    let e₁ = or_right lx (ly || (lz || m)) e in
    let sx = solid (x k.size) (not_true_of (is_length (x k.size)) (or_left lx (ly || (lz || m)) e)) in
    let sy = solid (y k.size) (not_true_of (is_length (y k.size)) (or_left ly (lz || m) e₁)) in
    let sz = solid (z k.size) (not_true_of (is_length (z k.size)) (or_left lz m (or_right ly (lz || m) e₁))) in
    mul_number binary64 (x k.size ⊗ y k.size) (z k.size)
    (mul_number binary64 (x k.size) (y k.size) (finite_number (x k.size) sx.is_finite) sy.is_finite sy.not_zero)
    sz.is_finite
    sz.not_zero

pub volumes_numbers : (order : Sheet) → Accepted order → (t : ℕ) → t < boxes_in order.kinds order.many.kinds → Number (volume_of order.kinds t)
unfolding volume_of
volumes_numbers order a t l = volume_number (kind_at order (turn_of order.kinds t).kind)
    (a.kind_sound (turn_of order.kinds t).kind (turn_kind order a t l)).measures_right

-- the order in which an accepted order's boxes are taken is the stable one by falling volume
pub order_falls : (order : Sheet) → Accepted order
    → Ordered (volume_of order.kinds) (falling_of (volume_of order.kinds) (boxes_in order.kinds order.many.kinds))
order_falls order a = falling_ordered (volume_of order.kinds) (boxes_in order.kinds order.many.kinds) (volumes_numbers order a)

-- and no other list of these places is so ordered
pub order_only : (order : Sheet) → Accepted order → (l : List ℕ) → Permᴰ l (up_to (boxes_in order.kinds order.many.kinds))
    → Ordered (volume_of order.kinds) l → l ≡ falling_of (volume_of order.kinds) (boxes_in order.kinds order.many.kinds)
order_only order a l p o = only_falling (volume_of order.kinds) (boxes_in order.kinds order.many.kinds) l (volumes_numbers order a) p o
