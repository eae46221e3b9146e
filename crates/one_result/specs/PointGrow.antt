-- The public calls of the crate point_grow: each contract settles its call.
use Rattle.std.specs.Prelude.{◌≡◌, refl}
use Rattle.std.proofs.Common.{sym, ◌∙◌}
use seplogic.Ra.Ura.{Ura}
use Rattle.one_result.specs.Law.{World, Settles, told}
use Rattle.point_grow.specs.Grow.{restock_of, put_box}
use Rattle.point_grow.specs.Told.{Stocked}
use Rattle.point_grow.specs.contracts.restock as restock
use Rattle.point_grow.specs.contracts.put_box as put-box

module _ {M : Type 1} (𝓤 : Ura M) (w : World 𝓤) where
  -- the points are lent
  pub restock_one : (κs : _) (args : _) → Settles 𝓤 (restock.clauses w.𝓛 w.mem w.run κs args) (λ e. e.0.now)
  restock_one κs args =
      let boxes = args.1.0.now in
      let c = args.1.1.0 in
      let live = args.1.1.1.0 in
      let held = args.1.1.1.1.0 in
      let k = args.1.1.1.1.1.0 in
      let size = args.1.1.1.1.1.1.0 in
      told 𝓤 _ _ (λ r x. Stocked (restock_of c boxes held live args.0.now k size) r x) (λ _. refl) (λ _ _ _. refl)
      (λ r s x y p q. (p.live_is ∙ sym q.live_is, p.points_are ∙ sym q.points_are))

  pub put_box_one : (κs : _) (args : _) → Settles 𝓤 (put-box.clauses w.𝓛 w.mem w.run κs args) (λ e. e.0.now)
  put_box_one κs args =
      told 𝓤 _ _ (λ r x. x ≡ put_box args.0.now args.1.0 args.1.1.0 args.1.1.1.0)
      (λ _. refl) (λ _ _ _. refl) (λ r s x y p q. (refl, p ∙ sym q))
