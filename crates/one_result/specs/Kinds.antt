-- The public calls of the crate sheet_kinds: each contract settles its call.
use Rattle.std.specs.Prelude.{refl}
use seplogic.Ra.Ura.{Ura}
use Rattle.one_result.specs.Law.{World, Settles, nothing, plain}
use Rattle.sheet_kinds.specs.contracts.survey_kinds as survey-kinds

module _ {M : Type 1} (𝓤 : Ura M) (w : World 𝓤) where
  pub survey_kinds_one : (κs : _) (args : _) → Settles 𝓤 (survey-kinds.clauses w.𝓛 w.mem w.run κs args) nothing
  survey_kinds_one κs args = plain 𝓤 _ _ (λ _. refl) (λ _ _ _. refl)
