-- The public calls of the crate layer_state: each contract settles its call.
use Rattle.std.specs.Prelude.{refl}
use seplogic.Ra.Ura.{Ura}
use Rattle.one_result.specs.Law.{World, Settles, nothing, plain}
use Rattle.layer_state.specs.contracts.stand.Stand.place_best as stand-place-best
use Rattle.layer_state.specs.contracts.stand.Stand.new as stand-new
use Rattle.layer_state.specs.contracts.stand.Stand.place as stand-place
use Rattle.layer_state.specs.contracts.stand.Stand.utilization as stand-utilization

module _ {M : Type 1} (𝓤 : Ura M) (w : World 𝓤) where
  pub stand_place_best_one : (κs : _) (args : _) → Settles 𝓤 (stand-place-best.clauses w.𝓛 w.mem w.run κs args) nothing
  stand_place_best_one κs args = plain 𝓤 _ _ (λ _. refl) (λ _ _ _. refl)

  pub stand_new_one : (κs : _) (args : _) → Settles 𝓤 (stand-new.clauses w.𝓛 w.mem w.run κs args) nothing
  stand_new_one κs args = plain 𝓤 _ _ (λ _. refl) (λ _ _ _. refl)

  pub stand_place_one : (κs : _) (args : _) → Settles 𝓤 (stand-place.clauses w.𝓛 w.mem w.run κs args) nothing
  stand_place_one κs args = plain 𝓤 _ _ (λ _. refl) (λ _ _ _. refl)

  pub stand_utilization_one : (κs : _) (args : _) → Settles 𝓤 (stand-utilization.clauses w.𝓛 w.mem w.run κs args) nothing
  stand_utilization_one κs args = plain 𝓤 _ _ (λ _. refl) (λ _ _ _. refl)
