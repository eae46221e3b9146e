-- The public calls of the crate layer_lent: each contract settles its call.
use Rattle.std.specs.Prelude.{refl}
use seplogic.Ra.Ura.{Ura}
use Rattle.one_result.specs.Law.{World, Settles, lent}
use Rattle.layer_lent.specs.contracts.advance as advance

module _ {M : Type 1} (𝓤 : Ura M) (w : World 𝓤) where
  pub advance_one : (κs : _) (args : _) → Settles 𝓤 (advance.clauses w.𝓛 w.mem w.run κs args) (λ e. e.0.now)
  advance_one κs args = lent 𝓤 _ _ _ _ (λ _. refl) (λ _ _ _. refl)
