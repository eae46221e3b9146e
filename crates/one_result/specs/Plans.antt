-- The public calls of the crate plan_sheet: each contract settles its call.
use Rattle.std.specs.Prelude.{refl}
use Rattle.std.proofs.Common.{sym, ◌∙◌}
use seplogic.Ra.Ura.{Ura}
use Rattle.one_result.specs.Law.{World, Settles, told}
use Rattle.plan_sheet.specs.contracts.hand_lines as hand-lines
use Rattle.plan_sheet.specs.Lent.{Handed}

module _ {M : Type 1} (𝓤 : Ura M) (w : World 𝓤) where
  pub hand_lines_one : (κs : _) (args : _)
      → Settles 𝓤 (hand-lines.clauses w.𝓛 w.mem w.run κs args) (λ e. e.1.1.1.0.now)
  hand_lines_one κs args =
      told 𝓤 _ _ (λ r x. Handed _ _ _ _ r x) (λ _. refl) (λ _ _ _. refl)
      (λ r s x y p q. (p.answer_is ∙ sym q.answer_is, p.words_are ∙ sym q.words_are))
