-- The public calls of the crate plan_file: each contract settles its call.
use Rattle.std.specs.Prelude.{refl}
use Rattle.std.proofs.Common.{sym, ◌∙◌, ap₂}
use seplogic.Ra.Ura.{Ura}
use Rattle.one_result.specs.Law.{World, Settles, pair_of, told}
use Rattle.point_run.specs.Runs.{ep_packing_of}
use Rattle.layer_plan.specs.Fills.{layer_fill_of}
use Rattle.plan_file.specs.Plan.{Answers}
use Rattle.plan_file.specs.contracts.plan_points as plan-points
use Rattle.plan_file.specs.contracts.plan_layers as plan-layers

module _ {M : Type 1} (𝓤 : Ura M) (w : World 𝓤) where
  pub plan_points_one : (κs : _) (args : _)
      → Settles 𝓤 (plan-points.clauses w.𝓛 w.mem w.run κs args) (pair_of (λ e. e.1.1.0.now) (λ e. e.1.1.1.0.now))
  plan_points_one κs args =
      told 𝓤 _ _ (λ r x. Answers ep_packing_of _ _ _ _ r x.0 x.1) (λ _. refl) (λ _ _ _. refl)
      (λ r s x y p q.
      (p.answer_is ∙ sym q.answer_is, ap₂ (λ a b. (a, b)) (p.bytes_are ∙ sym q.bytes_are) (p.figures_are ∙ sym q.figures_are)))

  pub plan_layers_one : (κs : _) (args : _)
      → Settles 𝓤 (plan-layers.clauses w.𝓛 w.mem w.run κs args) (pair_of (λ e. e.1.1.0.now) (λ e. e.1.1.1.0.now))
  plan_layers_one κs args =
      told 𝓤 _ _ (λ r x. Answers layer_fill_of _ _ _ _ r x.0 x.1) (λ _. refl) (λ _ _ _. refl)
      (λ r s x y p q.
      (p.answer_is ∙ sym q.answer_is, ap₂ (λ a b. (a, b)) (p.bytes_are ∙ sym q.bytes_are) (p.figures_are ∙ sym q.figures_are)))
