-- The public calls of the crate plan_run: each contract settles its call.
use Rattle.std.specs.Prelude.{refl}
use Rattle.std.proofs.Common.{sym, ◌∙◌}
use seplogic.Ra.Ura.{Ura}
use Rattle.plan_run.specs.Packs.{Packs}
use Rattle.one_result.specs.Law.{World, Settles, told}
use Rattle.plan_run.specs.contracts.run_ep_packing as run-ep-packing
use Rattle.plan_run.specs.contracts.layer_fill_in_order as layer-fill-in-order
use Rattle.plan_run.specs.contracts.layer_place_items as layer-place-items

module _ {M : Type 1} (𝓤 : Ura M) (w : World 𝓤) where
  pub run_ep_packing_one : (κs : _) (args : _)
      → Settles 𝓤 (run-ep-packing.clauses w.𝓛 w.mem w.run κs args) (λ e. e.1.1.0.now)
  run_ep_packing_one κs args =
      told 𝓤 _ _ (λ r x. Packs _ _ r x) (λ _. refl) (λ _ _ _. refl)
      (λ r s x y p q. (p.answer_is ∙ sym q.answer_is, p.words_are ∙ sym q.words_are))

  pub layer_fill_in_order_one : (κs : _) (args : _)
      → Settles 𝓤 (layer-fill-in-order.clauses w.𝓛 w.mem w.run κs args) (λ e. e.1.1.0.now)
  layer_fill_in_order_one κs args =
      told 𝓤 _ _ (λ r x. Packs _ _ r x) (λ _. refl) (λ _ _ _. refl)
      (λ r s x y p q. (p.answer_is ∙ sym q.answer_is, p.words_are ∙ sym q.words_are))

  pub layer_place_items_one : (κs : _) (args : _)
      → Settles 𝓤 (layer-place-items.clauses w.𝓛 w.mem w.run κs args) (λ e. e.1.1.1.1.0.now)
  layer_place_items_one κs args =
      told 𝓤 _ _ (λ r x. Packs _ _ r x) (λ _. refl) (λ _ _ _. refl)
      (λ r s x y p q. (p.answer_is ∙ sym q.answer_is, p.words_are ∙ sym q.words_are))
