-- The verdict on one pair of boxes that are to be so far apart. RULES: Findings: pairs
use Rattle.std.specs.Prelude.{Bool, cond, ◌&&◌, List, [], ◌∷◌, ℕ, get_or, Float}
use Rattle.std.specs.Float.{nan, binary64}
use Rattle.std.specs.Float.Ieee.{lt, neg}
use Rattle.floats.specs.Ops.{◌⊕◌, ◌⊖◌, ◌⊗◌, none, larger, x, y, z}
use Rattle.check_root.specs.Sqrt.{sqrt_of}
use Rattle.check_pair.specs.declared.Extent.{Extent}
use Rattle.check_pair.specs.declared.Verdict.{Verdict}

-- on an axis: from the far side of the one to the near side of the other, whichever way round is more
abbrev pub gap : Extent → Extent → ℕ → Float
gap a b k = larger (get_or b.min k nan ⊖ get_or a.max k nan) (get_or a.min k nan ⊖ get_or b.max k nan)

abbrev pub gaps : Extent → Extent → List Float
gaps a b = gap a b 0 ∷ gap a b 1 ∷ gap a b 2 ∷ []

-- more than the tolerance into each other on each axis
abbrev pub overlaps : List Float → Float → Bool
overlaps g t = lt (x g) (neg t) && (lt (y g) (neg t) && lt (z g) (neg t))

-- Of two zeros the larger may be either, and their squares are one.
abbrev pub squared : Float → Float
squared g = larger none g ⊗ larger none g

-- the squares of the gaps above zero, summed from the left
abbrev pub sum_of : List Float → Float
sum_of g = squared (x g) ⊕ squared (y g) ⊕ squared (z g)

-- the rounded root of that
unfoldable pub distance_of : List Float → Float
distance_of g = sqrt_of binary64 (sum_of g)

-- boxes that overlap; else too close where the distance is below the one asked, less the tolerance
unfoldable pub verdict_at : List Float → Float → Float → Verdict
verdict_at g asked t =
    cond (overlaps g t) Verdict.Overlap
    (cond (lt (distance_of g) (asked ⊖ t)) (Verdict.TooClose (distance_of g)) Verdict.Apart)

abbrev pub verdict_of : Extent → Extent → Float → Float → Verdict
verdict_of a b asked t = verdict_at (gaps a b) asked t
