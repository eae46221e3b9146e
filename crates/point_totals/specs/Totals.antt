-- `total_volume`, `total_mass`: the refusal of a state whose counts are over the bounds, and else the total. RULES: Volume and mass
use Rattle.std.specs.Prelude.{Bool, Float, Result}
use Rattle.domain.specs.declared.Refusal.{Refusal}
use Rattle.domain.specs.Refusals.{when}
use Rattle.domain.specs.Refusal.{answer_of}

abbrev pub amounted : Bool → Float → Result Float Refusal
amounted over v = answer_of (when over 2) v
