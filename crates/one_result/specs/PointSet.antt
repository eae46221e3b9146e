-- The public calls of the crate point_state: each contract settles its call.
use Rattle.std.specs.Prelude.{refl}
use seplogic.Ra.Ura.{Ura}
use Rattle.one_result.specs.Law.{World, Settles, nothing, plain}
use Rattle.point_state.specs.contracts.new as new
use Rattle.point_state.specs.contracts.over_counts as over-counts
use Rattle.point_state.specs.contracts.within as within
use Rattle.point_state.specs.contracts.mass_of as mass-of
use Rattle.point_state.specs.contracts.mass_with as mass-with
use Rattle.point_state.specs.contracts.sum3 as sum3

module _ {M : Type 1} (𝓤 : Ura M) (w : World 𝓤) where
  pub new_one : (κs : _) (args : _) → Settles 𝓤 (new.clauses w.𝓛 w.mem w.run κs args) nothing
  new_one κs args = plain 𝓤 _ _ (λ _. refl) (λ _ _ _. refl)

  pub over_counts_one : (κs : _) (args : _) → Settles 𝓤 (over-counts.clauses w.𝓛 w.mem w.run κs args) nothing
  over_counts_one κs args = plain 𝓤 _ _ (λ _. refl) (λ _ _ _. refl)

  pub within_one : (κs : _) (args : _) → Settles 𝓤 (within.clauses w.𝓛 w.mem w.run κs args) nothing
  within_one κs args = plain 𝓤 _ _ (λ _. refl) (λ _ _ _. refl)

  pub mass_of_one : (κs : _) (args : _) → Settles 𝓤 (mass-of.clauses w.𝓛 w.mem w.run κs args) nothing
  mass_of_one κs args = plain 𝓤 _ _ (λ _. refl) (λ _ _ _. refl)

  pub mass_with_one : (κs : _) (args : _) → Settles 𝓤 (mass-with.clauses w.𝓛 w.mem w.run κs args) nothing
  mass_with_one κs args = plain 𝓤 _ _ (λ _. refl) (λ _ _ _. refl)

  pub sum3_one : (κs : _) (args : _) → Settles 𝓤 (sum3.clauses w.𝓛 w.mem w.run κs args) nothing
  sum3_one κs args = plain 𝓤 _ _ (λ _. refl) (λ _ _ _. refl)
