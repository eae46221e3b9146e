-- The public calls of the crate layer_fitness: each contract settles its call.
use Rattle.std.specs.Prelude.{refl}
use seplogic.Ra.Ura.{Ura}
use Rattle.one_result.specs.Law.{World, Settles, nothing, plain}
use Rattle.layer_fitness.specs.contracts.packing_fitness as packing-fitness

module _ {M : Type 1} (𝓤 : Ura M) (w : World 𝓤) where
  pub packing_fitness_one : (κs : _) (args : _) → Settles 𝓤 (packing-fitness.clauses w.𝓛 w.mem w.run κs args) nothing
  packing_fitness_one κs args = plain 𝓤 _ _ (λ _. refl) (λ _ _ _. refl)
