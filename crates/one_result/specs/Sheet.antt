-- The public calls of the crate sheet: each contract settles its call.
use Rattle.std.specs.Prelude.{refl}
use seplogic.Ra.Ura.{Ura}
use Rattle.one_result.specs.Law.{World, Settles, nothing, plain}
use Rattle.sheet.specs.contracts.empty_sheet as empty-sheet
use Rattle.sheet.specs.contracts.over_count as over-count
use Rattle.sheet.specs.contracts.is_among as is_among
use Rattle.sheet.specs.contracts.sheet_refusal as sheet-refusal
use Rattle.sheet.specs.contracts.blank_kind as blank-kind
use Rattle.sheet.specs.contracts.blank_line as blank-line

module _ {M : Type 1} (𝓤 : Ura M) (w : World 𝓤) where
  pub empty_sheet_one : (κs : _) (args : _) → Settles 𝓤 (empty-sheet.clauses w.𝓛 w.mem w.run κs args) nothing
  empty_sheet_one κs args = plain 𝓤 _ _ (λ _. refl) (λ _ _ _. refl)

  pub over_count_one : (κs : _) (args : _) → Settles 𝓤 (over-count.clauses w.𝓛 w.mem w.run κs args) nothing
  over_count_one κs args = plain 𝓤 _ _ (λ _. refl) (λ _ _ _. refl)

  pub is_among_one : (κs : _) (args : _) → Settles 𝓤 (is_among.clauses w.𝓛 w.mem w.run κs args) nothing
  is_among_one κs args = plain 𝓤 _ _ (λ _. refl) (λ _ _ _. refl)

  pub sheet_refusal_one : (κs : _) (args : _) → Settles 𝓤 (sheet-refusal.clauses w.𝓛 w.mem w.run κs args) nothing
  sheet_refusal_one κs args = plain 𝓤 _ _ (λ _. refl) (λ _ _ _. refl)

  pub blank_kind_one : (κs : _) (args : _) → Settles 𝓤 (blank-kind.clauses w.𝓛 w.mem w.run κs args) nothing
  blank_kind_one κs args = plain 𝓤 _ _ (λ _. refl) (λ _ _ _. refl)

  pub blank_line_one : (κs : _) (args : _) → Settles 𝓤 (blank-line.clauses w.𝓛 w.mem w.run κs args) nothing
  blank_line_one κs args = plain 𝓤 _ _ (λ _. refl) (λ _ _ _. refl)
