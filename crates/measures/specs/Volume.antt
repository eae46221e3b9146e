-- The volume of a box, in the Rust's operation order.
use Rattle.std.specs.Prelude.{List, Float}
use Rattle.floats.specs.Ops.{x, y, z, ◌⊗◌}

-- geometry.rs and boundary.rs, `measure`: width by depth, the product by height
abbrev pub volume : List Float → Float
volume v = x v ⊗ y v ⊗ z v
