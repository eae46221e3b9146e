-- The public calls of the crate check_root: each contract settles its call.
use Rattle.std.specs.Prelude.{refl}
use seplogic.Ra.Ura.{Ura}
use Rattle.one_result.specs.Law.{World, Settles, nothing, plain}
use Rattle.check_root.specs.contracts.sqrt as sqrt
use Rattle.check_root.specs.contracts.sqrt_by as sqrt-by
use Rattle.check_root.specs.contracts.hint as hint

module _ {M : Type 1} (𝓤 : Ura M) (w : World 𝓤) where
  pub sqrt_one : (κs : _) (args : _) → Settles 𝓤 (sqrt.clauses w.𝓛 w.mem w.run κs args) nothing
  sqrt_one κs args = plain 𝓤 _ _ (λ _. refl) (λ _ _ _. refl)

  pub sqrt_by_one : (κs : _) (args : _) → Settles 𝓤 (sqrt-by.clauses w.𝓛 w.mem w.run κs args) nothing
  sqrt_by_one κs args = plain 𝓤 _ _ (λ _. refl) (λ _ _ _. refl)

  pub hint_one : (κs : _) (args : _) → Settles 𝓤 (hint.clauses w.𝓛 w.mem w.run κs args) nothing
  hint_one κs args = plain 𝓤 _ _ (λ _. refl) (λ _ _ _. refl)
