-- What a kind and a container ask of a box: whether it has a mass, and how far it is to stand from another.
use Rattle.std.specs.Prelude.{Bool, not, ℕ, eqb, Float}
use Rattle.measures.specs.declared.Container.{Container}

-- a box has a mass where its kind's flag is not 0
abbrev pub has_mass : ℕ → Bool
has_mass massed = not (eqb massed 0)

-- the distance asked of two boxes in a container: its spacing
abbrev pub asked_of : Container → Float
asked_of c = c.spacing
