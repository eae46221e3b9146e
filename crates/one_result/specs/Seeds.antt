-- The public calls of the crate layer_seeds: each contract settles its call.
use Rattle.std.specs.Prelude.{refl}
use Rattle.std.proofs.Common.{sym, ◌∙◌}
use seplogic.Ra.Ura.{Ura}
use Rattle.layer_seeds.specs.Seeds.{Ended}
use Rattle.one_result.specs.Law.{World, Settles, told}
use Rattle.layer_seeds.specs.contracts.seed_orientations as seed-orientations

module _ {M : Type 1} (𝓤 : Ura M) (w : World 𝓤) where
  pub seed_orientations_one : (κs : _) (args : _)
      → Settles 𝓤 (seed-orientations.clauses w.𝓛 w.mem w.run κs args) (λ e. e.1.1.0.now)
  seed_orientations_one κs args =
      told 𝓤 _ _ (λ r x. Ended _ _ _ r x) (λ _. refl) (λ _ _ _. refl)
      (λ r s x y p q. (p.answer_is ∙ sym q.answer_is, p.cells_are ∙ sym q.cells_are))
