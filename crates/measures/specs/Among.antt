-- The lengths in all six axis orders, and an orientation's among them.
use Rattle.std.specs.Prelude.{◌≡◌, refl, cond, List, [], ◌∷◌, ℕ, zero, suc, ◌<◌, ltb, length, get_or, Float}
use Rattle.std.proofs.Common.{arith}
use Rattle.measures.specs.declared.Kind.{Kind}
use Rattle.measures.specs.Orders.{orders, share_of, turned, lengths_in}

-- row by row of the table
abbrev pub all_turned : List Float → List (List Float)
all_turned size =
    turned size (get_or orders 0 [])
    ∷ turned size (get_or orders 1 [])
    ∷ turned size (get_or orders 2 [])
    ∷ turned size (get_or orders 3 [])
    ∷ turned size (get_or orders 4 [])
    ∷ turned size (get_or orders 5 [])
    ∷ []

-- RULES: Orientation. Past what the rule allows the box is unrotated.
unfoldable pub lengths_among : List (List Float) → List Float → ℕ → ℕ → List Float
lengths_among all size rule i = cond (ltb i (length (share_of rule))) (get_or all (get_or (share_of rule) i 0) []) size

-- ---- they are the lengths in that orientation

row_same : (size : List Float) (k : ℕ) → k < 6 → get_or (all_turned size) k [] ≡ turned size (get_or orders k [])
row_same size zero h = refl
row_same size (suc zero) h = refl
row_same size (suc (suc zero)) h = refl
row_same size (suc (suc (suc zero))) h = refl
row_same size (suc (suc (suc (suc zero)))) h = refl
row_same size (suc (suc (suc (suc (suc zero))))) h = refl
row_same size (suc (suc (suc (suc (suc (suc k)))))) h = absurd (omega arith)

-- every entry of a share is one of the six rows
pub share_bound : (r i : ℕ) → get_or (share_of r) i 0 < 6
share_bound zero zero = omega arith
share_bound zero (suc zero) = omega arith
share_bound zero (suc (suc zero)) = omega arith
share_bound zero (suc (suc (suc zero))) = omega arith
share_bound zero (suc (suc (suc (suc zero)))) = omega arith
share_bound zero (suc (suc (suc (suc (suc zero))))) = omega arith
share_bound zero (suc (suc (suc (suc (suc (suc i)))))) = omega arith
share_bound (suc zero) zero = omega arith
share_bound (suc zero) (suc zero) = omega arith
share_bound (suc zero) (suc (suc i)) = omega arith
share_bound (suc (suc r)) zero = omega arith
share_bound (suc (suc r)) (suc i) = omega arith

pub lengths_among_lem : (k : Kind) (i : ℕ) → lengths_among (all_turned k.size) k.size k.rule i ≡ lengths_in k i
unfolding lengths_among lengths_in
lengths_among_lem k i = rw (row_same k.size (get_or (share_of k.rule) i 0) (share_bound k.rule i))
