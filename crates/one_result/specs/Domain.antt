-- The public calls of the crate domain: each contract settles its call.
use Rattle.std.specs.Prelude.{refl}
use seplogic.Ra.Ura.{Ura}
use Rattle.one_result.specs.Law.{World, Settles, nothing, plain, bounded}
use Rattle.domain.specs.contracts.is_length as is-length
use Rattle.domain.specs.contracts.is_measure as is-measure
use Rattle.domain.specs.contracts.is_limit as is-limit
use Rattle.domain.specs.contracts.is_position as is-position
use Rattle.domain.specs.contracts.place_within as place-within
use Rattle.domain.specs.contracts.Refusal.number as refusal-number
use Rattle.domain.specs.contracts.Refusal.needed as refusal-needed
use Rattle.domain.specs.contracts.refuse as refuse

module _ {M : Type 1} (𝓤 : Ura M) (w : World 𝓤) where
  pub is_length_one : (κs : _) (args : _) → Settles 𝓤 (is-length.clauses w.𝓛 w.mem w.run κs args) nothing
  is_length_one κs args = plain 𝓤 _ _ (λ _. refl) (λ _ _ _. refl)

  pub is_measure_one : (κs : _) (args : _) → Settles 𝓤 (is-measure.clauses w.𝓛 w.mem w.run κs args) nothing
  is_measure_one κs args = plain 𝓤 _ _ (λ _. refl) (λ _ _ _. refl)

  pub is_limit_one : (κs : _) (args : _) → Settles 𝓤 (is-limit.clauses w.𝓛 w.mem w.run κs args) nothing
  is_limit_one κs args = plain 𝓤 _ _ (λ _. refl) (λ _ _ _. refl)

  pub is_position_one : (κs : _) (args : _) → Settles 𝓤 (is-position.clauses w.𝓛 w.mem w.run κs args) nothing
  is_position_one κs args = plain 𝓤 _ _ (λ _. refl) (λ _ _ _. refl)

  pub place_within_one : (κs : _) (args : _) → Settles 𝓤 (place-within.clauses w.𝓛 w.mem w.run κs args) nothing
  place_within_one κs args = bounded 𝓤 _ _ _ (λ _. refl) (λ _ _ _. refl)

  pub refusal_number_one : (κs : _) (args : _) → Settles 𝓤 (refusal-number.clauses w.𝓛 w.mem w.run κs args) nothing
  refusal_number_one κs args = plain 𝓤 _ _ (λ _. refl) (λ _ _ _. refl)

  pub refusal_needed_one : (κs : _) (args : _) → Settles 𝓤 (refusal-needed.clauses w.𝓛 w.mem w.run κs args) nothing
  refusal_needed_one κs args = plain 𝓤 _ _ (λ _. refl) (λ _ _ _. refl)

  pub refuse_one : (κs : _) (args : _) → Settles 𝓤 (refuse.clauses w.𝓛 w.mem w.run κs args) nothing
  refuse_one κs args = plain 𝓤 _ _ (λ _. refl) (λ _ _ _. refl)
