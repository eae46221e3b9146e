-- The public calls of the crate layer_cursor: each contract settles its call.
use Rattle.std.specs.Prelude.{refl}
use seplogic.Ra.Ura.{Ura}
use Rattle.one_result.specs.Law.{World, Settles, nothing, plain}
use Rattle.layer_cursor.specs.contracts.spot as spot

module _ {M : Type 1} (𝓤 : Ura M) (w : World 𝓤) where
  pub spot_one : (κs : _) (args : _) → Settles 𝓤 (spot.clauses w.𝓛 w.mem w.run κs args) nothing
  spot_one κs args = plain 𝓤 _ _ (λ _. refl) (λ _ _ _. refl)
