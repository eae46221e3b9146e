-- The span of several boxes: a box that has each of them within it. Where it is far from another box, each of them is (proofs/Spanned.antt).
use Rattle.std.specs.Prelude.{Bool, ◌&&◌, ℕ, get_or, Float}
use Rattle.std.specs.Float.{nan}
use Rattle.std.specs.Float.Ieee.{le, neg}
use Rattle.domain.specs.Ranges.{most_limit}
use Rattle.check_pair.specs.declared.Extent.{Extent}

abbrev pub near_on : Extent → ℕ → Float
near_on e a = get_or e.min a nan

abbrev pub far_on : Extent → ℕ → Float
far_on e a = get_or e.max a nan

-- on an axis: the span is within what corners can be, and the box is within it, its near side not past its far side
abbrev pub spans_on : Extent → Extent → ℕ → Bool
spans_on s e a =
    (le (neg most_limit) (near_on s a) && le (far_on s a) most_limit)
    && (le (near_on s a) (near_on e a) && (le (near_on e a) (far_on e a) && le (far_on e a) (far_on s a)))

unfoldable pub spans : Extent → Extent → Bool
spans s e = spans_on s e 0 && (spans_on s e 1 && spans_on s e 2)
