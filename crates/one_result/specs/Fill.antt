-- The public call of the crate fill_thousand: its contract settles it.
use Rattle.std.specs.Prelude.{refl}
use seplogic.Ra.Ura.{Ura}
use Rattle.one_result.specs.Law.{World, Settles, nothing, plain}
use Rattle.fill_thousand.specs.contracts.fill_of as fill-of

module _ {M : Type 1} (𝓤 : Ura M) (w : World 𝓤) where
  pub fill_of_one : (κs : _) (args : _) → Settles 𝓤 (fill-of.clauses w.𝓛 w.mem w.run κs args) nothing
  fill_of_one κs args = plain 𝓤 _ _ (λ _. refl) (λ _ _ _. refl)
