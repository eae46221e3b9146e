-- The public calls of the crate point_place: each contract settles its call.
use Rattle.std.specs.Prelude.{refl}
use seplogic.Ra.Ura.{Ura}
use Rattle.one_result.specs.Law.{World, Settles, nothing, plain}
use Rattle.point_place.specs.contracts.try_place as try-place

module _ {M : Type 1} (𝓤 : Ura M) (w : World 𝓤) where
  pub try_place_one : (κs : _) (args : _) → Settles 𝓤 (try-place.clauses w.𝓛 w.mem w.run κs args) nothing
  try_place_one κs args = plain 𝓤 _ _ (λ _. refl) (λ _ _ _. refl)
