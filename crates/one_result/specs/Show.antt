-- The public calls of the crate show_number, and of program_io those that read nothing: each contract settles its call. What the crates show and
-- show_finding print is a function of the value, `output`.
use Rattle.std.specs.Prelude.{refl}
use seplogic.Ra.Ura.{Ura}
use Rattle.one_result.specs.Law.{World, Settles, nothing, plain}
use Rattle.show_number.specs.contracts.number_of as number_of
use Rattle.program_io.specs.contracts.refusal_of as refusal-of
use Rattle.program_io.specs.contracts.count_of as count_of

module _ {M : Type 1} (𝓤 : Ura M) (w : World 𝓤) where
  pub number_of_one : (κs : _) (args : _) → Settles 𝓤 (number_of.clauses w.𝓛 w.mem w.run κs args) nothing
  number_of_one κs args = plain 𝓤 _ _ (λ _. refl) (λ _ _ _. refl)

  pub refusal_of_one : (κs : _) (args : _) → Settles 𝓤 (refusal-of.clauses w.𝓛 w.mem w.run κs args) nothing
  refusal_of_one κs args = plain 𝓤 _ _ (λ _. refl) (λ _ _ _. refl)

  pub count_of_one : (κs : _) (args : _) → Settles 𝓤 (count_of.clauses w.𝓛 w.mem w.run κs args) nothing
  count_of_one κs args = plain 𝓤 _ _ (λ _. refl) (λ _ _ _. refl)
