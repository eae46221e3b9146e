-- The public calls of the crate check_packing: each contract settles its call.
use Rattle.std.specs.Prelude.{refl}
use Rattle.std.proofs.Common.{sym, ◌∙◌}
use seplogic.Ra.Ura.{Ura}
use Rattle.one_result.specs.Law.{World, Settles, told}
use Rattle.check_packing.specs.Check.{CheckedFile}
use Rattle.check_packing.specs.contracts.check_packing as check-packing

module _ {M : Type 1} (𝓤 : Ura M) (w : World 𝓤) where
  pub check_packing_one : (κs : _) (args : _) → Settles 𝓤 (check-packing.clauses w.𝓛 w.mem w.run κs args) (λ e. e.1.0.now)
  check_packing_one κs args =
      told 𝓤 _ _ (λ r x. CheckedFile args.0.now args.1.0.now r x) (λ _. refl) (λ _ _ _. refl)
      (λ r s x y p q. (p.told ∙ sym q.told, p.cells ∙ sym q.cells))
