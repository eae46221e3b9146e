-- The public calls of the crate plan_boxes: each contract settles its call.
use Rattle.std.specs.Prelude.{refl}
use seplogic.Ra.Ura.{Ura}
use Rattle.one_result.specs.Law.{World, Settles, nothing, plain}
use Rattle.plan_boxes.specs.contracts.next_box as next_box
use Rattle.plan_boxes.specs.contracts.boxes_of as boxes-of

module _ {M : Type 1} (𝓤 : Ura M) (w : World 𝓤) where
  pub next_box_one : (κs : _) (args : _) → Settles 𝓤 (next_box.clauses w.𝓛 w.mem w.run κs args) nothing
  next_box_one κs args = plain 𝓤 _ _ (λ _. refl) (λ _ _ _. refl)

  pub boxes_of_one : (κs : _) (args : _) → Settles 𝓤 (boxes-of.clauses w.𝓛 w.mem w.run κs args) nothing
  boxes_of_one κs args = plain 𝓤 _ _ (λ _. refl) (λ _ _ _. refl)
