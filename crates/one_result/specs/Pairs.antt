-- The public calls of the crate check_pair: each contract settles its call.
use Rattle.std.specs.Prelude.{refl}
use seplogic.Ra.Ura.{Ura}
use Rattle.one_result.specs.Law.{World, Settles, nothing, plain}
use Rattle.check_pair.specs.contracts.tolerance as tolerance
use Rattle.check_pair.specs.contracts.Clearance.judge as judge
use Rattle.check_pair.specs.contracts.Extent.hint as hint
use Rattle.check_pair.specs.contracts.Clearance.limit as limit
use Rattle.check_pair.specs.contracts.Extent.is_far as is-far
use Rattle.check_pair.specs.contracts.Clearance.close as close
use Rattle.check_pair.specs.contracts.Clearance.is_found as is_found
use Rattle.check_pair.specs.contracts.Extent.spans as spans

module _ {M : Type 1} (𝓤 : Ura M) (w : World 𝓤) where
  pub tolerance_one : (κs : _) (args : _) → Settles 𝓤 (tolerance.clauses w.𝓛 w.mem w.run κs args) nothing
  tolerance_one κs args = plain 𝓤 _ _ (λ _. refl) (λ _ _ _. refl)

  pub judge_one : (κs : _) (args : _) → Settles 𝓤 (judge.clauses w.𝓛 w.mem w.run κs args) nothing
  judge_one κs args = plain 𝓤 _ _ (λ _. refl) (λ _ _ _. refl)

  pub hint_one : (κs : _) (args : _) → Settles 𝓤 (hint.clauses w.𝓛 w.mem w.run κs args) nothing
  hint_one κs args = plain 𝓤 _ _ (λ _. refl) (λ _ _ _. refl)

  pub limit_one : (κs : _) (args : _) → Settles 𝓤 (limit.clauses w.𝓛 w.mem w.run κs args) nothing
  limit_one κs args = plain 𝓤 _ _ (λ _. refl) (λ _ _ _. refl)

  pub is_far_one : (κs : _) (args : _) → Settles 𝓤 (is-far.clauses w.𝓛 w.mem w.run κs args) nothing
  is_far_one κs args = plain 𝓤 _ _ (λ _. refl) (λ _ _ _. refl)

  pub close_one : (κs : _) (args : _) → Settles 𝓤 (close.clauses w.𝓛 w.mem w.run κs args) nothing
  close_one κs args = plain 𝓤 _ _ (λ _. refl) (λ _ _ _. refl)

  pub is_found_one : (κs : _) (args : _) → Settles 𝓤 (is_found.clauses w.𝓛 w.mem w.run κs args) nothing
  is_found_one κs args = plain 𝓤 _ _ (λ _. refl) (λ _ _ _. refl)

  pub spans_one : (κs : _) (args : _) → Settles 𝓤 (spans.clauses w.𝓛 w.mem w.run κs args) nothing
  spans_one κs args = plain 𝓤 _ _ (λ _. refl) (λ _ _ _. refl)
