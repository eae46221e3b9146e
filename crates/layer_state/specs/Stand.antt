-- A fill without its placements: the mass rule, and one box offered in one orientation.
use Rattle.std.specs.Prelude.{◌≡◌, refl, Bool, cond, not, ◌&&◌, ◌||◌, [], ◌∷◌, ℕ, Option, Some, None, option_map, Float}
use Rattle.std.specs.Float.Ieee.{lt, le}
use Rattle.floats.specs.Ops.{◌⊕◌, ◌⊖◌, ◌⊘◌, none, x, y, z}
use Rattle.measures.specs.declared.Container.{Container}
use Rattle.measures.specs.declared.Kind.{Kind}
use Rattle.measures.specs.Asked.{has_mass}
use Rattle.measures.specs.Orders.{lengths_in}
use Rattle.measures.specs.Volume.{volume}
use Rattle.layer_cursor.specs.declared.LayerSpot.{LayerSpot}
use Rattle.layer_state.specs.declared.stand.Stand.{Stand}
use Rattle.layer_state.specs.declared.stand.Step.{Step}
use Rattle.layer_cursor.specs.Spot.{spot_of}

-- An empty container (packing_utils.rs, `new`): the far limits are its lengths less the margin, the cursor is at the margin on each axis, and the open
-- row and layer have no depth and no height. RULES: Second placer: cursor.
abbrev pub new_of : Container → Stand
new_of b =
    record {
      container = b;
      max = (x b.size ⊖ b.margin) ∷ (y b.size ⊖ b.margin) ∷ (z b.size ⊖ b.margin) ∷ [];
      cursor = record { x = b.margin; y = b.margin; z = b.margin; depth = none; height = none };
      volume = none;
      mass = none;
    }

-- Where there is a limit, a box with a mass may bring the load to it and no further; a box without one is always allowed. RULES: Second placer: mass.
abbrev pub mass_allows : Stand → Kind → Bool
mass_allows s k = not (lt none s.container.limit && has_mass k.massed) || le (s.mass ⊕ k.mass) s.container.limit

-- where a box of this kind would go in an orientation
abbrev pub spot_in : Stand → Kind → ℕ → Option LayerSpot
spot_in s k o = spot_of s.container s.max s.cursor (lengths_in k o)

-- The stand with a box on a spot. This placer adds the product of the kind's lengths as they are given, whichever way the box is turned; the mass of
-- a kind without one is +0. RULES: Volume and mass.
abbrev pub committed : Stand → Kind → LayerSpot → Stand
committed s k p =
    record { container = s.container; max = s.max; cursor = p.next; volume = s.volume ⊕ volume k.size; mass = s.mass ⊕ k.mass }

-- the step of a box on a spot
abbrev pub step_on : Stand → Kind → ℕ → LayerSpot → Step
step_on s k o p = record { orientation = o; at = p.at; next = committed s k p }

-- no spot, no step
unfoldable pub settled : Stand → Kind → ℕ → Option LayerSpot → Option Step
settled s k o p = option_map (step_on s k o) p

-- a box turned to an orientation, with no regard to mass
abbrev pub turned_of : Stand → Kind → ℕ → Option Step
turned_of s k o = settled s k o (spot_in s k o)

-- the mass is tested before a spot is looked for. RULES: Second placer: mass.
unfoldable pub place_of : Stand → Kind → ℕ → Option Step
place_of s k o = cond (mass_allows s k) (turned_of s k o) None

-- the utilization: the share of the container's volume that the placed boxes have
abbrev pub fill_of : Stand → Float
fill_of s = s.volume ⊘ volume s.container.size

-- the stand after an offer: behind the box, or as it was
abbrev pub after_step : Stand → Option Step → Stand
after_step s None = s
after_step s (Some r) = r.next

-- ---- no leaves everything as it was
pub place_stays : (s : Stand) (k : Kind) (o : ℕ) → place_of s k o ≡ None → after_step s (place_of s k o) ≡ s
place_stays s k o e = rw e refl
