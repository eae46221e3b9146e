-- The public calls of the crate plan_unplaced: each contract settles its call.
use Rattle.std.specs.Prelude.{refl}
use seplogic.Ra.Ura.{Ura}
use Rattle.one_result.specs.Law.{World, Settles, nothing, plain}
use Rattle.plan_unplaced.specs.contracts.unplaced_list as unplaced-list
use Rattle.plan_unplaced.specs.contracts.left_in as left_in

module _ {M : Type 1} (𝓤 : Ura M) (w : World 𝓤) where
  pub unplaced_list_one : (κs : _) (args : _) → Settles 𝓤 (unplaced-list.clauses w.𝓛 w.mem w.run κs args) nothing
  unplaced_list_one κs args = plain 𝓤 _ _ (λ _. refl) (λ _ _ _. refl)

  pub left_in_one : (κs : _) (args : _) → Settles 𝓤 (left_in.clauses w.𝓛 w.mem w.run κs args) nothing
  left_in_one κs args = plain 𝓤 _ _ (λ _. refl) (λ _ _ _. refl)
