-- The public calls of the crate layer_fill: each contract settles its call.
use Rattle.std.specs.Prelude.{refl}
use seplogic.Ra.Ura.{Ura}
use Rattle.one_result.specs.Law.{World, Settles, nothing, plain}
use Rattle.layer_fill.specs.contracts.LayerFill.new as layer-fill-new
use Rattle.layer_fill.specs.contracts.LayerFill.place as layer-fill-place
use Rattle.layer_fill.specs.contracts.LayerFill.place_best as layer-fill-place-best
use Rattle.layer_fill.specs.contracts.LayerFill.placed as layer-fill-placed
use Rattle.layer_fill.specs.contracts.LayerFill.utilization as layer-fill-utilization
use Rattle.layer_fill.specs.contracts.LayerFill.finish as layer-fill-finish

module _ {M : Type 1} (𝓤 : Ura M) (w : World 𝓤) where
  pub layer_fill_new_one : (κs : _) (args : _) → Settles 𝓤 (layer-fill-new.clauses w.𝓛 w.mem w.run κs args) nothing
  layer_fill_new_one κs args = plain 𝓤 _ _ (λ _. refl) (λ _ _ _. refl)

  pub layer_fill_place_one : (κs : _) (args : _) → Settles 𝓤 (layer-fill-place.clauses w.𝓛 w.mem w.run κs args) nothing
  layer_fill_place_one κs args = plain 𝓤 _ _ (λ _. refl) (λ _ _ _. refl)

  pub layer_fill_place_best_one : (κs : _) (args : _) → Settles 𝓤 (layer-fill-place-best.clauses w.𝓛 w.mem w.run κs args) nothing
  layer_fill_place_best_one κs args = plain 𝓤 _ _ (λ _. refl) (λ _ _ _. refl)

  pub layer_fill_placed_one : (κs : _) (args : _) → Settles 𝓤 (layer-fill-placed.clauses w.𝓛 w.mem w.run κs args) nothing
  layer_fill_placed_one κs args = plain 𝓤 _ _ (λ _. refl) (λ _ _ _. refl)

  pub layer_fill_utilization_one : (κs : _) (args : _) → Settles 𝓤 (layer-fill-utilization.clauses w.𝓛 w.mem w.run κs args) nothing
  layer_fill_utilization_one κs args = plain 𝓤 _ _ (λ _. refl) (λ _ _ _. refl)

  pub layer_fill_finish_one : (κs : _) (args : _) → Settles 𝓤 (layer-fill-finish.clauses w.𝓛 w.mem w.run κs args) nothing
  layer_fill_finish_one κs args = plain 𝓤 _ _ (λ _. refl) (λ _ _ _. refl)
