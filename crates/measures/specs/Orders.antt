-- The six axis orders, each rule's share of them, and the lengths of a box in an orientation.
use Rattle.std.specs.Prelude.{ℕ, zero, suc, ◌≤◌, ◌≡◌, refl, cond, List, [], ◌∷◌, map, ltb, length, get_or, Float}
use Rattle.std.proofs.Common.{arith}
use Rattle.std.specs.Float.{nan}
use Rattle.measures.specs.declared.Kind.{Kind}

-- RULES: Orientation. The one table of axis orders: which of a box's lengths stand for width, depth and height.
abbrev pub orders : List (List ℕ)
orders = (0 ∷ 1 ∷ 2 ∷ []) ∷ (0 ∷ 2 ∷ 1 ∷ []) ∷ (1 ∷ 0 ∷ 2 ∷ []) ∷ (1 ∷ 2 ∷ 0 ∷ []) ∷ (2 ∷ 0 ∷ 1 ∷ []) ∷ (2 ∷ 1 ∷ 0 ∷ []) ∷ []

-- The rows of `orders` that a rule allows: 0 is any, 1 upright, 2 fixed. A rule past 2 is refused wherever a kind is tested, and counts as fixed here.
abbrev pub share_of : ℕ → List ℕ
share_of zero = 0 ∷ 1 ∷ 2 ∷ 3 ∷ 4 ∷ 5 ∷ []
share_of (suc zero) = 0 ∷ 2 ∷ []
share_of (suc (suc n)) = 0 ∷ []

-- a rule allows at most all of them
pub share_few : (r : ℕ) → length (share_of r) ≤ 6
share_few zero = omega arith
share_few (suc zero) = omega arith
share_few (suc (suc r)) = omega arith

-- a rule's orientation i as an axis order
abbrev pub order_at : ℕ → ℕ → List ℕ
order_at rule i = get_or orders (get_or (share_of rule) i 0) []

-- the lengths with their axes in this order
abbrev pub turned : List Float → List ℕ → List Float
turned size o = get_or size (get_or o 0 0) nan ∷ get_or size (get_or o 1 0) nan ∷ get_or size (get_or o 2 0) nan ∷ []

-- RULES: Orientation. A box's lengths in an orientation; past what its rule allows it is unrotated.
unfoldable pub lengths_in : Kind → ℕ → List Float
lengths_in k i = cond (ltb i (length (share_of k.rule))) (turned k.size (order_at k.rule i)) k.size

-- RULES: Orientation. What an upright and a fixed box are allowed, read from the table.
pub upright_is : map (λ i. get_or orders i []) (share_of 1) ≡ (0 ∷ 1 ∷ 2 ∷ []) ∷ (1 ∷ 0 ∷ 2 ∷ []) ∷ []
upright_is = refl

pub fixed_is : map (λ i. get_or orders i []) (share_of 2) ≡ (0 ∷ 1 ∷ 2 ∷ []) ∷ []
fixed_is = refl
