-- Lengths, measures and positions in range. That a box which ends within the container begins at such a position stands in proofs/Spots.antt.
use Rattle.std.specs.Prelude.{◌≡◌, Bool, true, false, not, ◌||◌, List, [], ℕ, zero, suc, T, ltb, length, get_or, Float}
use Rattle.std.proofs.Common.{sym, subst}
use Rattle.std.specs.Float.{nan, inf, fin}
use Rattle.std.specs.Float.Ieee.{of_bits, le, neg, is_nan}
use Rattle.std.specs.Float.Ieee.Bits.{is_true}
use Rattle.std.specs.Float.Ieee.Scale.{finite}
use Rattle.floats.specs.Ops.{x, y, z, ◌⊖◌}
use Rattle.floats.specs.Order.{signed}
use Rattle.floats.specs.Numbers.{finite_between}
use Rattle.domain.specs.Ranges.{least_length, most, is_length, is_measure, is_position}
use Rattle.lists.specs.Bools.{or_left, or_right, and_left, and_right, not_true_of, cond_cases}
use Rattle.domain.specs.Laws.{or_else_first, or_else_second, when_none}
use Rattle.domain.specs.Refusals.{when}
use Rattle.measures.specs.declared.Kind.{Kind}
use Rattle.measures.specs.declared.Container.{Container}
use Rattle.measures.specs.Orders.{orders, share_of, turned, lengths_in}
use Rattle.measures.specs.Faults.{record_fault, measure_fault, kind_fault, container_fault}
use Rattle.sheet.specs.declared.Line.{Line}
use Rattle.sheet.specs.Sheets.{line_fault}
use Rattle.plan_laws.specs.Top.{less_top, length_signed, measure_signed}

holds : {b : Bool} → b ≡ true → T b
holds e = subst T (sym e) tt

pub fails : {b : Bool} → b ≡ false → T (not b)
fails e = subst (λ (t : Bool). T (not t)) (sym e) tt

-- ---- three lengths, and three measures of a container

pub record Lengths (v : List Float) : Type 0 where
  pub x_is : is_length (x v) ≡ true
  pub y_is : is_length (y v) ≡ true
  pub z_is : is_length (z v) ≡ true

-- the lengths of a kind in whatever order, each row of the six and past them
turned_lengths : (v : List Float) (row : ℕ) → Lengths v → Lengths (turned v (get_or orders row []))
turned_lengths v zero h = record { x_is = h.x_is; y_is = h.y_is; z_is = h.z_is }
turned_lengths v (suc zero) h = record { x_is = h.x_is; y_is = h.z_is; z_is = h.y_is }
turned_lengths v (suc (suc zero)) h = record { x_is = h.y_is; y_is = h.x_is; z_is = h.z_is }
turned_lengths v (suc (suc (suc zero))) h = record { x_is = h.y_is; y_is = h.z_is; z_is = h.x_is }
turned_lengths v (suc (suc (suc (suc zero)))) h = record { x_is = h.z_is; y_is = h.x_is; z_is = h.y_is }
turned_lengths v (suc (suc (suc (suc (suc zero))))) h = record { x_is = h.z_is; y_is = h.y_is; z_is = h.x_is }
turned_lengths v (suc (suc (suc (suc (suc (suc row)))))) h = record { x_is = h.x_is; y_is = h.x_is; z_is = h.x_is }

kind_lengths : (k : Kind) → measure_fault k ≡ false → Lengths k.size
kind_lengths k e =
    let a = or_right (not (is_length (x k.size))) _ e in
    let b = or_right (not (is_length (y k.size))) _ a in
    record {
      x_is = not_true_of (is_length (x k.size)) (or_left (not (is_length (x k.size))) _ e);
      y_is = not_true_of (is_length (y k.size)) (or_left (not (is_length (y k.size))) _ a);
      z_is = not_true_of (is_length (z k.size)) (or_left (not (is_length (z k.size))) _ b);
    }

-- a right kind has lengths in every orientation
pub lengths_in_lem : (k : Kind) (o : ℕ) → measure_fault k ≡ false → Lengths (lengths_in k o)
unfolding lengths_in
lengths_in_lem k o e =
    let h = kind_lengths k e in
    cond_cases Lengths (ltb o (length (share_of k.rule))) (λ _. turned_lengths k.size (get_or (share_of k.rule) o 0) h) (λ _. h)

-- a kind that is not refused
pub kind_measures : (k : Kind) (repeats : Bool) → kind_fault k repeats ≡ 0 → measure_fault k ≡ false
unfolding kind_fault
kind_measures k repeats h =
    when_none (measure_fault k) 2 (or_else_first (when (measure_fault k) 3) _ (or_else_second (when (record_fault k) 4) _ h))

pub record Sized (c : Container) : Type 0 where
  pub lengths : Lengths c.size
  pub margin : signed false c.margin
  pub spacing : signed false c.spacing

pub sized : (c : Container) → container_fault c ≡ false → Sized c
unfolding container_fault
sized c e =
    let sizes = not (is_length (x c.size)) || (not (is_length (y c.size)) || not (is_length (z c.size))) in
    let a = or_left sizes _ e in
    let b = or_right (not (is_length (x c.size))) _ a in
    let d = or_right sizes _ e in
    let g = or_right (not (is_measure c.margin)) _ d in
    record {
      lengths =
          record {
            x_is = not_true_of (is_length (x c.size)) (or_left (not (is_length (x c.size))) _ a);
            y_is = not_true_of (is_length (y c.size)) (or_left (not (is_length (y c.size))) _ b);
            z_is = not_true_of (is_length (z c.size)) (or_right (not (is_length (y c.size))) _ b);
          };
      margin = measure_signed c.margin (not_true_of (is_measure c.margin) (or_left (not (is_measure c.margin)) _ d));
      spacing = measure_signed c.spacing (not_true_of (is_measure c.spacing) (or_left (not (is_measure c.spacing)) _ g));
    }

-- ---- what a length is

pub least : (v : Float) → is_length v ≡ true → T (le least_length v)
least v e = holds (and_left (le least_length v) (le v most) e)

at_most : (v : Float) → is_length v ≡ true → T (le v most)
at_most v e = holds (and_right (le least_length v) (le v most) e)

pub length_finite : (v : Float) → is_length v ≡ true → T (finite v)
unfolding of_bits
length_finite v e = finite_between least_length v most tt tt (least v e) (at_most v e)

pub not_negative : (v : Float) → is_length v ≡ true → signed false v
not_negative v e = length_signed v (least v e)

-- ---- three positions in range

pub record InRange (v : List Float) : Type 0 where
  pub x_is : is_position (x v) ≡ true
  pub y_is : is_position (y v) ≡ true
  pub z_is : is_position (z v) ≡ true

pub no_fault : (l : Line) → InRange l.at → line_fault l ≡ 0
unfolding line_fault
no_fault l h = rw (h.x_is, h.y_is, h.z_is)

-- ---- on one axis

pub between : (v : Float) → T (le (neg most) v) → T (le v most) → is_position v ≡ true
between v p q = rw (is_true (le (neg most) v) p, is_true (le v most) q)

pub number_r : (v w : Float) → T (le v w) → T (not (is_nan w))
unfolding le is_nan
number_r nan w h = absurd h
number_r (inf s) nan h = absurd h
number_r (inf s) (inf t) h = tt
number_r (inf s) (fin t n d) h = tt
number_r (fin s m e) nan h = absurd h
number_r (fin s m e) (inf t) h = tt
number_r (fin s m e) (fin t n d) h = tt

-- the far limit of the layer placer, and with E that of the other
pub limit_top : (size margin : Float) → is_length size ≡ true → signed false margin → T (le (size ⊖ margin) most)
limit_top size margin h p = less_top size margin (at_most size h) p
