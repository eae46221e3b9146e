-- The public calls of the crate point_overlap: each contract settles its call.
use Rattle.std.specs.Prelude.{refl}
use seplogic.Ra.Ura.{Ura}
use Rattle.one_result.specs.Law.{World, Settles, nothing, plain}
use Rattle.point_overlap.specs.contracts.max_corner as max-corner
use Rattle.point_overlap.specs.contracts.overlaps as overlaps

module _ {M : Type 1} (𝓤 : Ura M) (w : World 𝓤) where
  pub max_corner_one : (κs : _) (args : _) → Settles 𝓤 (max-corner.clauses w.𝓛 w.mem w.run κs args) nothing
  max_corner_one κs args = plain 𝓤 _ _ (λ _. refl) (λ _ _ _. refl)

  pub overlaps_one : (κs : _) (args : _) → Settles 𝓤 (overlaps.clauses w.𝓛 w.mem w.run κs args) nothing
  overlaps_one κs args = plain 𝓤 _ _ (λ _. refl) (λ _ _ _. refl)
