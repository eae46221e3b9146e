-- The public call of the crate point_order: its contract settles it.
use Rattle.std.specs.Prelude.{◌≡◌, refl, List, ◌++◌, ℕ, Float}
use Rattle.std.proofs.Common.{sym, ◌∙◌, ap₂, take-append-drop}
use seplogic.Ra.Ura.{Ura}
use Rattle.point_order.specs.Order.{sortable, Falls}
use Rattle.one_result.specs.Law.{World, Settles, told}
use Rattle.point_order.specs.contracts.falling as falling

-- a store is its first places and the rest
one_order : (volumes : List Float) (n : ℕ) (old r s : List ℕ) → Falls volumes n old r → Falls volumes n old s → r ≡ s
one_order volumes n old r s p q =
    let m = sortable n volumes old in
    sym (take-append-drop m r)
    ∙ (ap₂ (λ (a b : List ℕ). a ++ b) (p.first ∙ sym q.first) (p.rest ∙ sym q.rest) ∙ take-append-drop m s)

module _ {M : Type 1} (𝓤 : Ura M) (w : World 𝓤) where
  -- the places are lent
  pub falling_one : (κs : _) (args : _) → Settles 𝓤 (falling.clauses w.𝓛 w.mem w.run κs args) (λ e. e.1.1.0.now)
  falling_one κs args = told 𝓤 _ _ (λ r x. Falls _ _ _ x) (λ _. refl) (λ _ _ _. refl) (λ r s x y p q. (refl, one_order _ _ _ x y p q))
