-- The public calls of the crate point_reads: each contract settles its call.
use Rattle.std.specs.Prelude.{refl}
use seplogic.Ra.Ura.{Ura}
use Rattle.one_result.specs.Law.{World, Settles, nothing, plain}
use Rattle.point_reads.specs.contracts.len as len
use Rattle.point_reads.specs.contracts.is_empty as is-empty
use Rattle.point_reads.specs.contracts.placed_count as placed-count
use Rattle.point_reads.specs.contracts.placed_box as placed-box

module _ {M : Type 1} (𝓤 : Ura M) (w : World 𝓤) where
  pub len_one : (κs : _) (args : _) → Settles 𝓤 (len.clauses w.𝓛 w.mem w.run κs args) nothing
  len_one κs args = plain 𝓤 _ _ (λ _. refl) (λ _ _ _. refl)

  pub is_empty_one : (κs : _) (args : _) → Settles 𝓤 (is-empty.clauses w.𝓛 w.mem w.run κs args) nothing
  is_empty_one κs args = plain 𝓤 _ _ (λ _. refl) (λ _ _ _. refl)

  pub placed_count_one : (κs : _) (args : _) → Settles 𝓤 (placed-count.clauses w.𝓛 w.mem w.run κs args) nothing
  placed_count_one κs args = plain 𝓤 _ _ (λ _. refl) (λ _ _ _. refl)

  pub placed_box_one : (κs : _) (args : _) → Settles 𝓤 (placed-box.clauses w.𝓛 w.mem w.run κs args) nothing
  placed_box_one κs args = plain 𝓤 _ _ (λ _. refl) (λ _ _ _. refl)
