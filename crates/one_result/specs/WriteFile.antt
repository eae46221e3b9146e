-- The public calls of the crate file_write: each contract settles its call.
use Rattle.std.specs.Prelude.{refl}
use Rattle.std.proofs.Common.{sym, ◌∙◌}
use seplogic.Ra.Ura.{Ura}
use Rattle.one_result.specs.Law.{World, Settles, lent_apart, told}
use Rattle.file_write.specs.PlanStores.{Told}
use Rattle.file_write.specs.contracts.write_sheet as write-sheet
use Rattle.file_write.specs.contracts.write_plan as write-plan

module _ {M : Type 1} (𝓤 : Ura M) (w : World 𝓤) where
  pub write_sheet_one : (κs : _) (args : _) → Settles 𝓤 (write-sheet.clauses w.𝓛 w.mem w.run κs args) (λ e. e.1.0.now)
  write_sheet_one κs args = lent_apart 𝓤 _ _ _ _ (λ _. refl) (λ _ _ _. refl)

  -- the last of seven is lent
  pub write_plan_one : (κs : _) (args : _)
      → Settles 𝓤 (write-plan.clauses w.𝓛 w.mem w.run κs args) (λ e. e.1.1.1.1.1.1.0.now)
  write_plan_one κs args =
      let c = args.1.1 in
      told 𝓤 _ _
      (λ r x.
      Told args.0.now (record { kinds = args.1.0; lines = c.1.0; unplaced = c.1.1.1.0 })
      c.0.now
      c.1.1.0.now c.1.1.1.1.0.now x r)
      (λ _. refl) (λ _ _ _. refl) (λ r s x y p q. (p.answer ∙ sym q.answer, p.bytes ∙ sym q.bytes))
