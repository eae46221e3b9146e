-- Binary64's operations under short names, and vectors of three.
use Rattle.std.specs.Prelude.{cond, List, [], ◌∷◌, get_or, Float}
use Rattle.std.specs.Float.Ieee as Ieee
use Rattle.std.specs.Float.{nan, binary64}
use Rattle.std.specs.Float.Ieee.{of_bits, lt}

infixl 65 ◌⊕◌
infixl 65 ◌⊖◌
infixl 70 ◌⊗◌
infixl 70 ◌⊘◌
-- the rounded sum, difference, product and quotient
abbrev pub ◌⊕◌ : Float → Float → Float
◌⊕◌ = Ieee.add binary64

abbrev pub ◌⊖◌ : Float → Float → Float
◌⊖◌ = Ieee.sub binary64

abbrev pub ◌⊗◌ : Float → Float → Float
◌⊗◌ = Ieee.mul binary64

abbrev pub ◌⊘◌ : Float → Float → Float
◌⊘◌ = Ieee.div binary64

-- +0
abbrev pub none : Float
none = of_bits binary64 0

-- a vector that says nothing: three times +0
abbrev pub nowhere : List Float
nowhere = none ∷ none ∷ none ∷ []

-- the coordinates of a vector: width, depth, height
abbrev pub x : List Float → Float
x v = get_or v 0 nan

abbrev pub y : List Float → Float
y v = get_or v 1 nan

abbrev pub z : List Float → Float
z v = get_or v 2 nan

-- the second where the first is below it, else the first
abbrev pub larger : Float → Float → Float
larger a b = cond (lt a b) b a
