-- The tests of a point against a placed box with the axes asked z, y, x, where the definitions have them as the Rust writes them, x first.
-- Nothing is used of a comparison but that it says yes or no: so the two agree for every float, NaN included.
use mathlib.Core.Path.{◌≡◌, refl}
use mathlib.Core.Bool.{Bool, true, false, not, ◌&&◌, ◌||◌}
use mathlib.Core.List.{List}
use lib.Ieee.{Float, lt, le}
use Rattle.floats.specs.Ops.{x, y, z, ◌⊕◌, ◌⊖◌}
use Rattle.domain.specs.Ranges.{slack}
use Rattle.point_fit.specs.Fit.{apart}
use Rattle.point_fit.specs.Ends.{buries}

-- a law of `lists` says so too; the crate does without that one for its sake
or_true : (b : Bool) → (b || true) ≡ true
or_true true = refl
or_true false = refl

-- one of six tests holds: the three pairs from the last to the first
some_turned : (p q r s t u : Bool) → (p || (q || (r || (s || (t || u))))) ≡ (t || (u || (r || (s || (p || q)))))
some_turned true q r s t u = rw (or_true s, or_true r, or_true u, or_true t)
some_turned false true r s t u = rw (or_true s, or_true r, or_true u, or_true t)
some_turned false false true s t u = rw (or_true u, or_true t)
some_turned false false false true t u = rw (or_true u, or_true t)
some_turned false false false false t true = refl
some_turned false false false false t false = refl

pub apart_by_height : (a b at far : List Float)
    → apart a b at far
    ≡ (le (z a) (z at) || (le (z far) (z b) || (le (y a) (y at) || (le (y far) (y b) || (le (x a) (x at) || le (x far) (x b))))))
unfolding apart
apart_by_height a b at far =
    some_turned (le (x a) (x at)) (le (x far) (x b)) (le (y a) (y at)) (le (y far) (y b)) (le (z a) (z at)) (le (z far) (z b))

-- six tests hold: none of them, from the last to the first, says no
all_turned : (p q r s t u : Bool) → ((p && q) && ((r && s) && (t && u))) ≡ not (not u || (not t || (not s || (not r || (not q || not p)))))
all_turned false q r s t u = rw (or_true (not q), or_true (not r), or_true (not s), or_true (not t), or_true (not u))
all_turned true false r s t u = rw (or_true (not r), or_true (not s), or_true (not t), or_true (not u))
all_turned true true false s t u = rw (or_true (not s), or_true (not t), or_true (not u))
all_turned true true true false t u = rw (or_true (not t), or_true (not u))
all_turned true true true true false u = rw (or_true (not u))
all_turned true true true true true true = refl
all_turned true true true true true false = refl

-- the point is past the near side, and short of the far one
abbrev past : Float → Float → Bool
past near at = lt (near ⊕ slack) at

abbrev short : Float → Float → Float → Bool
short near size at = lt at (near ⊕ size ⊖ slack)

pub buries_by_height : (near size at : List Float)
    → buries near size at
    ≡ not (not (short (z near) (z size) (z at)) || (not (past (z near) (z at))
    || (not (short (y near) (y size) (y at)) || (not (past (y near) (y at)) || (not (short (x near) (x size) (x at)) || not (past (x near) (x at)))))))
unfolding buries
buries_by_height near size at =
    all_turned (past (x near) (x at)) (short (x near) (x size) (x at)) (past (y near) (y at)) (short (y near) (y size) (y at))
    (past (z near) (z at)) (short (z near) (z size) (z at))
