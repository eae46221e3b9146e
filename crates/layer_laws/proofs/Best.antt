-- The orientation that the layer placer chooses is the least by its score, for every container, boxes offered before and box offered now.
use Rattle.std.specs.Prelude.{◌≡◌, List, ℕ, Ok}
use Rattle.measures.specs.declared.Container.{Container}
use Rattle.measures.specs.declared.Kind.{Kind}
use Rattle.layer_state.specs.Best.{place_best_of}
use Rattle.layer_fill.specs.declared.LayerFill.{LayerFill}
use Rattle.layer_fill.specs.Fill.{opened, placed_best}
use Rattle.layer_lent.specs.Follows.{Offer, fill_after, is_opened, answer_cases}
use Rattle.layer_laws.specs.Best.{Standing, after_standing, empty_standing, Chooses, chooses_taken, chooses_left}

module _ (f : LayerFill) (k : Kind) (instance : ℕ) (s : Standing f) where
  chooses : Chooses f k (placed_best f k instance)
  chooses =
      answer_cases f k instance (place_best_of f.stand k) (Chooses f k) (chooses_taken f k instance s) (chooses_left f k instance s) (λ _. tt)

-- ---- for every container that is not refused, boxes offered since, and box offered now
pub best_least : (b : Container) (f : LayerFill) (ws : List Offer) (k : Kind) (instance : ℕ) → Ok f ≡ opened b
    → Chooses (fill_after f ws) k (placed_best (fill_after f ws) k instance)
best_least b f ws k instance h =
    let o = is_opened b f h in
    chooses (fill_after f ws) k instance (after_standing f ws (rw o.fill_is (empty_standing b o.accepted)))
