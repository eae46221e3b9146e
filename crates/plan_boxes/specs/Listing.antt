-- The listing: the boxes of an order, each kind's instances in turn. RULES: First placer: run
use Rattle.std.specs.Prelude.{List, [], ◌∷◌, ◌++◌, ℕ, zero, suc}
use Rattle.measures.specs.declared.Kind.{Kind}
use Rattle.plan_boxes.specs.declared.Instance.{Instance}
use Rattle.plan_boxes.specs.Turns.{turn_of}

abbrev pub no_instance : Instance
no_instance = record { kind = 0; instance = 0 }

-- the first n boxes of an order. `turn_right` and `turn_at` say that they are its boxes, each once, where each kind has a box and n is at most their
-- number; else the rule of Turns.antt goes on all the same, as if each kind had its instance 0 and there were a next kind.
unfoldable pub listing_of : List Kind → ℕ → List Instance
listing_of kinds zero = []
listing_of kinds (suc n) = listing_of kinds n ++ (turn_of kinds n ∷ [])
