-- What a step of the layer fill took, whichever call made it: the spot of the orientation that it says.
use Rattle.std.specs.Prelude.{◌≡◌, refl, Bool, true, false, cond, ℕ, Option, Some, None, IfSome, option_and_then}
use Rattle.measures.specs.declared.Kind.{Kind}
use Rattle.layer_cursor.specs.declared.LayerSpot.{LayerSpot}
use Rattle.layer_state.specs.declared.stand.Stand.{Stand}
use Rattle.layer_state.specs.declared.stand.Step.{Step}
use Rattle.layer_state.specs.declared.best.Best.{Best}
use Rattle.layer_state.specs.Stand.{mass_allows, spot_in, settled, turned_of, place_of}
use Rattle.layer_state.specs.Best.{best_for, best_step, place_best_of}

-- what the step took as a spot: its position, and the cursor of the stand after it
abbrev pub spot_by : Step → LayerSpot
spot_by t = record { at = t.at; next = t.next.cursor }

-- a step from s with a box of kind k
pub record Made (s : Stand) (k : Kind) (t : Step) : Type 0 where
  pub container_kept : t.next.container ≡ s.container
  pub limits_kept : t.next.max ≡ s.max
  pub spot_taken : spot_in s k t.orientation ≡ Some (spot_by t)

-- under a test that may say no first
made_ruled : (s : Stand) (k : Kind) (t : Option Step) (b : Bool) → IfSome t (Made s k) → IfSome (cond b t None) (Made s k)
made_ruled s k t true m = m
made_ruled s k t false m = tt

made_settled : (s : Stand) (k : Kind) (o : ℕ) (p : Option LayerSpot) → spot_in s k o ≡ p → IfSome (settled s k o p) (Made s k)
unfolding settled
made_settled s k o None e = tt
made_settled s k o (Some p) e = record { container_kept = refl; limits_kept = refl; spot_taken = e }

made_turned : (s : Stand) (k : Kind) (o : ℕ) → IfSome (turned_of s k o) (Made s k)
made_turned s k o = made_settled s k o (spot_in s k o) refl

-- ---- of the two calls

pub made_place : (s : Stand) (k : Kind) (o : ℕ) → IfSome (place_of s k o) (Made s k)
unfolding place_of
made_place s k o = made_ruled s k (turned_of s k o) (mass_allows s k) (made_turned s k o)

pub made_best : (s : Stand) (k : Kind) → IfSome (place_best_of s k) (Made s k)
unfolding place_best_of
made_best s k = made_ruled s k (best_step s k) (mass_allows s k) (go (best_for s k))
  where
    go : (d : Option Best) → IfSome (option_and_then (λ (d : Best). turned_of s k d.orientation) d) (Made s k)
    go None = tt
    go (Some d) = made_turned s k d.orientation
