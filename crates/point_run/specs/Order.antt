-- The order in which a run takes the boxes. RULES: First placer: run
use Rattle.std.specs.Prelude.{List, map, ℕ, get_or, Float}
use Rattle.measures.specs.declared.Kind.{Kind}
use Rattle.measures.specs.Volume.{volume}
use Rattle.sheet.specs.Sheets.{no_kind}
use Rattle.plan_boxes.specs.declared.Instance.{Instance}
use Rattle.plan_boxes.specs.Turns.{turn_of}
use Rattle.point_order.specs.Order.{falling_of}

-- the unrotated volume of box t in listing order
unfoldable pub volume_of : List Kind → ℕ → Float
volume_of kinds t = volume (get_or kinds (turn_of kinds t).kind no_kind).size

-- the first n boxes of an order, in that order
unfoldable pub falling_boxes : List Kind → ℕ → List Instance
falling_boxes kinds n = map (turn_of kinds) (falling_of (volume_of kinds) n)
