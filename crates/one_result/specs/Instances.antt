-- The public calls of the crate layer_instances: each contract settles its call.
use Rattle.std.specs.Prelude.{refl}
use Rattle.std.proofs.Common.{sym, ◌∙◌}
use seplogic.Ra.Ura.{Ura}
use Rattle.layer_instances.specs.Instances.{Ended}
use Rattle.one_result.specs.Law.{World, Settles, told, nothing, plain}
use Rattle.layer_instances.specs.contracts.has_stranger as has-stranger
use Rattle.layer_instances.specs.contracts.too_many as too-many
use Rattle.layer_instances.specs.contracts.build_instances as build-instances

module _ {M : Type 1} (𝓤 : Ura M) (w : World 𝓤) where
  pub has_stranger_one : (κs : _) (args : _) → Settles 𝓤 (has-stranger.clauses w.𝓛 w.mem w.run κs args) nothing
  has_stranger_one κs args = plain 𝓤 _ _ (λ _. refl) (λ _ _ _. refl)

  pub too_many_one : (κs : _) (args : _) → Settles 𝓤 (too-many.clauses w.𝓛 w.mem w.run κs args) nothing
  too_many_one κs args = plain 𝓤 _ _ (λ _. refl) (λ _ _ _. refl)

  pub build_instances_one : (κs : _) (args : _) → Settles 𝓤 (build-instances.clauses w.𝓛 w.mem w.run κs args) (λ e. e.1.0.now)
  build_instances_one κs args =
      told 𝓤 _ _ (λ r x. Ended _ _ r x) (λ _. refl) (λ _ _ _. refl)
      (λ r s x y p q. (p.answer_is ∙ sym q.answer_is, p.words_are ∙ sym q.words_are))
