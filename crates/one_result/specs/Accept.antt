-- The public call of the crate file_accept: its contract settles it.
use Rattle.std.specs.Prelude.{refl}
use seplogic.Ra.Ura.{Ura}
use Rattle.one_result.specs.Law.{World, Settles, nothing, plain}
use Rattle.file_accept.specs.contracts.accept as accept

module _ {M : Type 1} (𝓤 : Ura M) (w : World 𝓤) where
  pub accept_one : (κs : _) (args : _) → Settles 𝓤 (accept.clauses w.𝓛 w.mem w.run κs args) nothing
  accept_one κs args = plain 𝓤 _ _ (λ _. refl) (λ _ _ _. refl)
