-- What is accepted holds numbers only: a NaN is in no order with anything, and its bits are not all zero, so it is in no range.
use Rattle.std.specs.Prelude.{ℕ, ◌≡◌, refl, Bool, false, not, ◌||◌, List, T, Float}
use Rattle.std.proofs.Common.{arith}
use Rattle.std.specs.Float.{nan, inf, fin}
use Rattle.std.specs.Float.Ieee.{is_nan, le, lt, to_bits}
use Rattle.floats.specs.Ops.{x, y, z}
use Rattle.domain.specs.Ranges.{is_length, is_measure, is_limit, is_position}
use Rattle.lists.specs.Bools.{or_left, or_right}
use Rattle.domain.specs.Laws.{when_none}
use Rattle.measures.specs.declared.Kind.{Kind}
use Rattle.measures.specs.declared.Container.{Container}
use Rattle.measures.specs.Faults.{measure_fault, container_fault}
use Rattle.sheet.specs.declared.Line.{Line}
use Rattle.sheet.specs.Sheets.{line_fault}

abbrev pub IsNumber : Float → Type 0
IsNumber v = T (not (is_nan v))

pub record Numbers (v : List Float) : Type 0 where
  pub wide : IsNumber (x v)
  pub deep : IsNumber (y v)
  pub high : IsNumber (z v)

-- ---- ranges

nan_le : (a : Float) → le a nan ≡ false
unfolding le lt
nan_le nan = refl
nan_le (inf s) = refl
nan_le (fin s m e) = refl

nan_lt : (a : Float) → lt a nan ≡ false
unfolding lt
nan_lt nan = refl
nan_lt (inf s) = refl
nan_lt (fin s m e) = refl

-- a test that a NaN fails is passed by numbers only
passes : (p : Float → Bool) → p nan ≡ false → (v : Float) → not (p v) ≡ false → IsNumber v
unfolding is_nan
passes p f nan t = let z : ◌≡◌ {A = ℕ} 0 1 = cc in omega arith
passes p f (inf s) t = tt
passes p f (fin s m e) t = tt

length_number : (v : Float) → not (is_length v) ≡ false → IsNumber v
length_number = passes is_length (rw nan_le)

measure_number : (v : Float) → not (is_measure v) ≡ false → IsNumber v
measure_number = passes is_measure (rw nan_le)

position_number : (v : Float) → not (is_position v) ≡ false → IsNumber v
position_number = passes is_position (rw nan_le)

limit_number : (v : Float) → not (is_limit v) ≡ false → IsNumber v
unfolding to_bits
limit_number = passes is_limit (rw nan_lt)

-- three tests on a vector
three_numbers : (p : Float → Bool) → ((v : Float) → not (p v) ≡ false → IsNumber v) → (v : List Float) →
    (not (p (x v)) || (not (p (y v)) || not (p (z v)))) ≡ false → Numbers v
three_numbers p n v h =
    let b = or_right (not (p (x v))) _ h in
    record { wide = n (x v) (or_left (not (p (x v))) _ h); deep = n (y v) (or_left (not (p (y v))) _ b); high = n (z v) (or_right (not (p (y v))) _ b) }

-- ---- records

pub record ContainerNumbers (c : Container) : Type 0 where
  pub size : Numbers c.size
  pub margin : IsNumber c.margin
  pub spacing : IsNumber c.spacing
  pub limit : IsNumber c.limit

pub container_numbers_lem : (c : Container) → container_fault c ≡ false → ContainerNumbers c
unfolding container_fault
container_numbers_lem c h =
    let a = not (is_length (x c.size)) || (not (is_length (y c.size)) || not (is_length (z c.size))) in
    let b = or_right a _ h in
    let d = or_right (not (is_measure c.margin)) _ b in
    record {
      size = three_numbers is_length length_number c.size (or_left a _ h);
      margin = measure_number c.margin (or_left (not (is_measure c.margin)) _ b);
      spacing = measure_number c.spacing (or_left (not (is_measure c.spacing)) _ d);
      limit = limit_number c.limit (or_right (not (is_measure c.spacing)) _ d);
    }

pub record KindNumbers (k : Kind) : Type 0 where
  pub size : Numbers k.size
  pub mass : IsNumber k.mass

pub kind_numbers_lem : (k : Kind) → measure_fault k ≡ false → KindNumbers k
kind_numbers_lem k h =
    let a = not (is_length (x k.size)) in
    let b = not (is_length (y k.size)) in
    let c = not (is_length (z k.size)) in
    let h₁ = or_right a _ h in
    let h₂ = or_right b _ h₁ in
    record {
      size =
          record {
            wide = length_number (x k.size) (or_left a _ h);
            deep = length_number (y k.size) (or_left b _ h₁);
            high = length_number (z k.size) (or_left c _ h₂);
          };
      mass = measure_number k.mass (or_right c _ h₂);
    }

pub line_numbers_lem : (l : Line) → line_fault l ≡ 0 → Numbers l.at
unfolding line_fault
line_numbers_lem l h = three_numbers is_position position_number l.at (when_none _ 2 h)
