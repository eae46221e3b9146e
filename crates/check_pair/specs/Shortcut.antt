-- When a pair is far enough apart to need no root. proofs/Shortcut.antt shows that then the distance is never below what is asked.
use Rattle.std.specs.Prelude.{◌*◌, ◌^◌, Bool, cond, ◌&&◌, ◌||◌, List, leb, ltb, Float}
use Rattle.std.specs.Float.{binary64}
use Rattle.std.specs.Float.Ieee.{to_bits, le, neg}
use Rattle.floats.specs.Ops.{◌⊖◌, ◌⊘◌, none, x, y, z}

-- from 2 ^ -511 to below 2 ^ 512: the square neither overflows nor loses digits
abbrev pub plain : Float → Bool
plain v = leb (512 * 2 ^ 52) (to_bits binary64 v) && ltb (to_bits binary64 v) (1535 * 2 ^ 52)

-- one gap alone is at least so much
abbrev pub some_gap : Float → List Float → Bool
some_gap least g = le least (x g) || (le least (y g) || le least (z g))

-- nothing is asked, or one gap alone is what is asked
abbrev pub far_enough : List Float → Float → Bool
far_enough g least = le least none || (plain least && some_gap least g)

-- From this gap on, on one axis, two boxes that are to be so far apart get no finding. It is not a number, and so no gap is at
-- least that much, where one gap alone does not tell.
unfoldable pub limit_of : Float → Float → Float
limit_of asked t =
    let least = asked ⊖ t in
    cond (le least none) (neg t) (cond (plain least && le (neg t) least) least (none ⊘ none))
