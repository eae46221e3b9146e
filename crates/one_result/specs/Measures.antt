-- The public calls of the crate measures: each contract settles its call.
use Rattle.std.specs.Prelude.{refl}
use seplogic.Ra.Ura.{Ura}
use Rattle.one_result.specs.Law.{World, Settles, nothing, plain}
use Rattle.measures.specs.contracts.allowed_orientations as allowed-orientations
use Rattle.measures.specs.contracts.dimensions_for_orientation as dimensions-for-orientation
use Rattle.measures.specs.contracts.all_turned as all_turned
use Rattle.measures.specs.contracts.dimensions_among as dimensions-among
use Rattle.measures.specs.contracts.measure as measure
use Rattle.measures.specs.contracts.kind_fault as kind-fault
use Rattle.measures.specs.contracts.container_fault as container-fault
use Rattle.measures.specs.contracts.has_mass as has-mass

module _ {M : Type 1} (𝓤 : Ura M) (w : World 𝓤) where
  pub allowed_orientations_one : (κs : _) (args : _) → Settles 𝓤 (allowed-orientations.clauses w.𝓛 w.mem w.run κs args) nothing
  allowed_orientations_one κs args = plain 𝓤 _ _ (λ _. refl) (λ _ _ _. refl)

  pub dimensions_for_orientation_one : (κs : _) (args : _)
      → Settles 𝓤 (dimensions-for-orientation.clauses w.𝓛 w.mem w.run κs args) nothing
  dimensions_for_orientation_one κs args = plain 𝓤 _ _ (λ _. refl) (λ _ _ _. refl)

  pub all_turned_one : (κs : _) (args : _) → Settles 𝓤 (all_turned.clauses w.𝓛 w.mem w.run κs args) nothing
  all_turned_one κs args = plain 𝓤 _ _ (λ _. refl) (λ _ _ _. refl)

  pub dimensions_among_one : (κs : _) (args : _) → Settles 𝓤 (dimensions-among.clauses w.𝓛 w.mem w.run κs args) nothing
  dimensions_among_one κs args = plain 𝓤 _ _ (λ _. refl) (λ _ _ _. refl)

  pub measure_one : (κs : _) (args : _) → Settles 𝓤 (measure.clauses w.𝓛 w.mem w.run κs args) nothing
  measure_one κs args = plain 𝓤 _ _ (λ _. refl) (λ _ _ _. refl)

  pub kind_fault_one : (κs : _) (args : _) → Settles 𝓤 (kind-fault.clauses w.𝓛 w.mem w.run κs args) nothing
  kind_fault_one κs args = plain 𝓤 _ _ (λ _. refl) (λ _ _ _. refl)

  pub container_fault_one : (κs : _) (args : _) → Settles 𝓤 (container-fault.clauses w.𝓛 w.mem w.run κs args) nothing
  container_fault_one κs args = plain 𝓤 _ _ (λ _. refl) (λ _ _ _. refl)

  pub has_mass_one : (κs : _) (args : _) → Settles 𝓤 (has-mass.clauses w.𝓛 w.mem w.run κs args) nothing
  has_mass_one κs args = plain 𝓤 _ _ (λ _. refl) (λ _ _ _. refl)
