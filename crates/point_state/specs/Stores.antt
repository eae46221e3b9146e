-- The stores of a state: its points and its placed boxes, a row each; the sum of two vectors; and what a store keeps where one row is stored over.
use Rattle.std.specs.Prelude.{◌≡◌, refl, Bool, true, false, List, [], ◌∷◌, ℕ, ◌+◌, ◌*◌, ◌<◌, eqb, length, get_or, set, Float}
use Rattle.std.proofs.Common.{eqb-true, get_or-set_same, get_or-set_other}
use Rattle.std.proofs.lemmas.Bool.{eqb-false}
use Rattle.floats.specs.Ops.{x, y, z, ◌⊕◌}
use Rattle.domain.specs.Bounds.{most_boxes}
use Rattle.point_state.specs.declared.Spot.{Spot}
use Rattle.point_state.specs.declared.ExtremePointSet.{ExtremePointSet}

-- as many points as so many boxes can leave: one, and two more for each box. RULES: Numbers that bound it
abbrev pub most_points : ℕ
most_points = 1 + 2 * most_boxes

-- point k of a store, and box i. What stands past their ends nothing reads.
abbrev pub point_in : List (List Float) → ℕ → List Float
point_in points k = get_or points k []

abbrev pub no_spot : Spot
no_spot = record { position = []; dimensions = [] }

abbrev pub spot_in : List Spot → ℕ → Spot
spot_in boxes i = get_or boxes i no_spot

-- stored point i
abbrev pub point_at : ExtremePointSet → ℕ → List Float
point_at s i = point_in s.points i

-- placed box i
abbrev pub position_at : ExtremePointSet → ℕ → List Float
position_at s i = (spot_in s.boxes i).position

abbrev pub dimensions_at : ExtremePointSet → ℕ → List Float
dimensions_at s i = (spot_in s.boxes i).dimensions

-- the sum axis by axis
abbrev pub sum3 : List Float → List Float → List Float
sum3 a b = (x a ⊕ x b) ∷ (y a ⊕ y b) ∷ (z a ⊕ z b) ∷ []

-- ---- laws

-- what holds of the row stored, and of row j unless it is the one stored over, holds of row j afterwards
pub set_keeps : {A : Type 0} (P : A → Type 0) (v : List A) (k j : ℕ) (a d : A) → k < length v → P a → ((j ≡ k → ⊥) → P (get_or v j d))
    → P (get_or (set v k a) j d)
set_keeps P v k j a d h new old = go (eqb j k) refl
  where
    go : (b : Bool) → eqb j k ≡ b → P (get_or (set v k a) j d)
    go true e = rw (eqb-true j k e, get_or-set_same v k a d h) new
    go false e = rw (get_or-set_other v k j a d (eqb-false j k e)) (old (eqb-false j k e))
