-- The placed boxes: one of them, and the totals over them. RULES: First placer: state · Volume and mass
use Rattle.std.specs.Prelude.{cond, List, ℕ, zero, suc, get_or, Float, Option, Some, None}
use Rattle.floats.specs.Ops.{none, ◌⊕◌}
use Rattle.measures.specs.declared.Kind.{Kind}
use Rattle.measures.specs.Asked.{has_mass}
use Rattle.measures.specs.Volume.{volume}
use Rattle.point_state.specs.declared.Label.{Label}
use Rattle.point_state.specs.declared.Spot.{Spot}
use Rattle.point_state.specs.declared.PlacedBox.{PlacedBox}
use Rattle.point_state.specs.declared.ExtremePointSet.{ExtremePointSet}
use Rattle.point_state.specs.Stores.{spot_in, position_at, dimensions_at}

-- what stands past the labels' end, which nothing reads
abbrev pub no_label : Label
no_label = record { id = 0; instance = 0; mass = None }

abbrev pub label_at : ExtremePointSet → ℕ → Label
label_at s i = get_or s.labels i no_label

-- placed box i
unfoldable pub box_at : ExtremePointSet → ℕ → PlacedBox
box_at s i =
    record {
      id = (label_at s i).id;
      instance = (label_at s i).instance;
      position = position_at s i;
      dimensions = dimensions_at s i;
      mass = (label_at s i).mass;
    }

-- ---- totals, from +0 in the order placed

-- each box by its lengths as it stands, that is turned
unfoldable pub volume_below : List Spot → ℕ → Float
volume_below boxes zero = none
volume_below boxes (suc i) = volume_below boxes i ⊕ volume (spot_in boxes i).dimensions

abbrev pub total_volume : ExtremePointSet → Float
total_volume s = volume_below s.boxes s.held

-- the mass of a box of the kind, where it has one
unfoldable pub mass_of : Kind → Option Float
mass_of kind = cond (has_mass kind.massed) (Some kind.mass) None

-- a box without a mass adds nothing
unfoldable pub mass_with : Float → Option Float → Float
mass_with sum (Some mass) = sum ⊕ mass
mass_with sum None = sum

unfoldable pub mass_below : List Label → ℕ → Float
mass_below labels zero = none
mass_below labels (suc i) = mass_with (mass_below labels i) (get_or labels i no_label).mass

abbrev pub total_mass : ExtremePointSet → Float
total_mass s = mass_below s.labels s.held
