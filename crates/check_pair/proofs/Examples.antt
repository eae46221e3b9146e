-- Two worked pairs, by computation, and the tolerance of the worked example's container.
use mathlib.Core.Path.{◌≡◌, refl}
use mathlib.Core.List.{List, [], ◌∷◌}
use Prim.Native.Nat.{ℕ}
use lib.Ieee.{Float, binary64, of_bits, to_bits, lt, neg, add, sub, mul, of_int}
use lib.IntN.{pos}
use Rattle.check_root.specs.Sqrt.{sqrt_of}
use Rattle.check_pair.specs.declared.Extent.{Extent}
use Rattle.check_pair.specs.declared.Verdict.{Verdict}
use Rattle.check_pair.specs.Tolerance.{tolerance_of}
use Rattle.check_pair.specs.Pair.{distance_of, verdict_at, verdict_of}

abbrev whole : ℕ → Float
whole n = of_int binary64 (pos n)

abbrev at : ℕ → ℕ → ℕ → List Float
at a b c = whole a ∷ whole b ∷ whole c ∷ []

abbrev cube : List Float → List Float → Extent
cube p q = record { min = p; max = q }

-- "Container 10×10×10": T is 1.1e-8
abbrev tenth : Float
tenth = tolerance_of (at 10 10 10)

pub ten_is : to_bits binary64 tenth ≡ 0x3E479F505F35670D
unfolding tolerance_of to_bits of_bits of_int lt neg add mul
ten_is = refl

-- boxes that touch are apart where nothing is asked, and boxes in one place overlap
pub touching : verdict_of (cube (at 0 0 0) (at 1 1 1)) (cube (at 1 0 0) (at 2 1 1)) (whole 0) tenth ≡ Verdict.Apart
unfolding tolerance_of verdict_at distance_of sqrt_of to_bits of_bits of_int lt neg add sub mul
touching = refl

pub one_place : verdict_of (cube (at 0 0 0) (at 1 1 1)) (cube (at 0 0 0) (at 1 1 1)) (whole 0) tenth ≡ Verdict.Overlap
unfolding tolerance_of verdict_at distance_of sqrt_of to_bits of_bits of_int lt neg add sub mul
one_place = refl
