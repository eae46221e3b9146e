-- The public calls of the crate point_totals: each contract settles its call.
use Rattle.std.specs.Prelude.{refl}
use seplogic.Ra.Ura.{Ura}
use Rattle.one_result.specs.Law.{World, Settles, nothing, plain}
use Rattle.point_totals.specs.contracts.total_volume as total-volume
use Rattle.point_totals.specs.contracts.total_mass as total-mass

module _ {M : Type 1} (𝓤 : Ura M) (w : World 𝓤) where
  pub total_volume_one : (κs : _) (args : _) → Settles 𝓤 (total-volume.clauses w.𝓛 w.mem w.run κs args) nothing
  total_volume_one κs args = plain 𝓤 _ _ (λ _. refl) (λ _ _ _. refl)

  pub total_mass_one : (κs : _) (args : _) → Settles 𝓤 (total-mass.clauses w.𝓛 w.mem w.run κs args) nothing
  total_mass_one κs args = plain 𝓤 _ _ (λ _. refl) (λ _ _ _. refl)
