-- The public calls of the crate file_read: each contract settles its call.
use Rattle.std.specs.Prelude.{refl}
use seplogic.Ra.Ura.{Ura}
use Rattle.one_result.specs.Law.{World, Settles, nothing, plain}
use Rattle.file_read.specs.contracts.read_sheet as read-sheet
use Rattle.file_read.specs.contracts.records.sections_of as sections-of
use Rattle.file_read.specs.contracts.records.counts_in as counts-in
use Rattle.file_read.specs.contracts.records.container_in as container-in
use Rattle.file_read.specs.contracts.records.kind_in as kind_in
use Rattle.file_read.specs.contracts.records.line_in as line-in
use Rattle.file_read.specs.contracts.records.unplaced_in as unplaced-in

module _ {M : Type 1} (𝓤 : Ura M) (w : World 𝓤) where
  pub read_sheet_one : (κs : _) (args : _) → Settles 𝓤 (read-sheet.clauses w.𝓛 w.mem w.run κs args) nothing
  read_sheet_one κs args = plain 𝓤 _ _ (λ _. refl) (λ _ _ _. refl)

  pub sections_of_one : (κs : _) (args : _) → Settles 𝓤 (sections-of.clauses w.𝓛 w.mem w.run κs args) nothing
  sections_of_one κs args = plain 𝓤 _ _ (λ _. refl) (λ _ _ _. refl)

  pub counts_in_one : (κs : _) (args : _) → Settles 𝓤 (counts-in.clauses w.𝓛 w.mem w.run κs args) nothing
  counts_in_one κs args = plain 𝓤 _ _ (λ _. refl) (λ _ _ _. refl)

  pub container_in_one : (κs : _) (args : _) → Settles 𝓤 (container-in.clauses w.𝓛 w.mem w.run κs args) nothing
  container_in_one κs args = plain 𝓤 _ _ (λ _. refl) (λ _ _ _. refl)

  pub kind_in_one : (κs : _) (args : _) → Settles 𝓤 (kind_in.clauses w.𝓛 w.mem w.run κs args) nothing
  kind_in_one κs args = plain 𝓤 _ _ (λ _. refl) (λ _ _ _. refl)

  pub line_in_one : (κs : _) (args : _) → Settles 𝓤 (line-in.clauses w.𝓛 w.mem w.run κs args) nothing
  line_in_one κs args = plain 𝓤 _ _ (λ _. refl) (λ _ _ _. refl)

  pub unplaced_in_one : (κs : _) (args : _) → Settles 𝓤 (unplaced-in.clauses w.𝓛 w.mem w.run κs args) nothing
  unplaced_in_one κs args = plain 𝓤 _ _ (λ _. refl) (λ _ _ _. refl)
