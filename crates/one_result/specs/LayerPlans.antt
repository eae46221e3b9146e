-- The public calls of the crate layer_plan: each contract settles its call.
use Rattle.std.specs.Prelude.{refl}
use Rattle.std.proofs.Common.{sym, ◌∙◌}
use seplogic.Ra.Ura.{Ura}
use Rattle.plan_sheet.specs.Laid.{Lays}
use Rattle.one_result.specs.Law.{World, Settles, told}
use Rattle.layer_plan.specs.contracts.lay_layers as lay-layers
use Rattle.layer_plan.specs.contracts.lay_items as lay-items

module _ {M : Type 1} (𝓤 : Ura M) (w : World 𝓤) where
  pub lay_layers_one : (κs : _) (args : _)
      → Settles 𝓤 (lay-layers.clauses w.𝓛 w.mem w.run κs args)
      (λ e. e.1.1.0.now)
  lay_layers_one κs args =
      told 𝓤 _ _ (λ r x. Lays _ r _ x) (λ _. refl) (λ _ _ _. refl)
      (λ r s x y p q. (p.told_is ∙ sym q.told_is, p.lines_are ∙ sym q.lines_are))

  pub lay_items_one : (κs : _) (args : _)
      → Settles 𝓤 (lay-items.clauses w.𝓛 w.mem w.run κs args)
      (λ e. e.1.1.1.1.0.now)
  lay_items_one κs args =
      told 𝓤 _ _ (λ r x. Lays _ r _ x) (λ _. refl) (λ _ _ _. refl)
      (λ r s x y p q. (p.told_is ∙ sym q.told_is, p.lines_are ∙ sym q.lines_are))
