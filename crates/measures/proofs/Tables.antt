-- The code says of rows and axes what the definitions say: each rule's share, and axes below 3.
use mathlib.Core.Path.{◌≡◌, refl}
use mathlib.Core.List.{[], ◌∷◌}
use Prim.Native.Nat.{ℕ, zero, suc, ◌*◌, ◌<◌}
use native.Mathlib.Nat.{le_of_suc-le-suc, not-suc-le-zero}
use native.Mathlib.Omega.{arith}
use lib.ListN.{length, get_or}
use Rattle.measures.specs.Orders.{orders, share_of}

-- past the first two rules a box is fixed
pub share_past : (r : ℕ) → (r ≡ 0 → ⊥) → (r ≡ 1 → ⊥) → share_of r ≡ 0 ∷ []
share_past zero h k = absurd (h refl)
share_past (suc zero) h k = absurd (k refl)
share_past (suc (suc r)) h k = refl

-- the first rule has row i at place i
pub share_any : (i : ℕ) → i < 6 → get_or (share_of 0) i 0 ≡ i
share_any zero h = refl
share_any (suc zero) h = refl
share_any (suc (suc zero)) h = refl
share_any (suc (suc (suc zero))) h = refl
share_any (suc (suc (suc (suc zero)))) h = refl
share_any (suc (suc (suc (suc (suc zero))))) h = refl
share_any (suc (suc (suc (suc (suc (suc i)))))) h = omega arith

-- and the others row 2 · i
pub share_less : (r i : ℕ) → (r ≡ 0 → ⊥) → i < length (share_of r) → get_or (share_of r) i 0 ≡ 2 * i
share_less zero i k h = absurd (k refl)
share_less (suc zero) zero k h = refl
share_less (suc zero) (suc zero) k h = refl
share_less (suc zero) (suc (suc i)) k h = absurd (not-suc-le-zero (le_of_suc-le-suc (le_of_suc-le-suc h)))
share_less (suc (suc r)) zero k h = refl
share_less (suc (suc r)) (suc i) k h = absurd (not-suc-le-zero (le_of_suc-le-suc h))

-- every axis is one of three
pub axis_bound : (k j : ℕ) → get_or (get_or orders k []) j 0 < 3
axis_bound k j = small k j
  where
    three : (a b c j : ℕ) → a < 3 → b < 3 → c < 3 → get_or (a ∷ b ∷ c ∷ []) j 0 < 3
    three a b c zero ha hb hc = ha
    three a b c (suc zero) ha hb hc = hb
    three a b c (suc (suc zero)) ha hb hc = hc
    three a b c (suc (suc (suc j))) ha hb hc = omega arith

    small : (k j : ℕ) → get_or (get_or orders k []) j 0 < 3
    small zero j = three 0 1 2 j (omega arith) (omega arith) (omega arith)
    small (suc zero) j = three 0 2 1 j (omega arith) (omega arith) (omega arith)
    small (suc (suc zero)) j = three 1 0 2 j (omega arith) (omega arith) (omega arith)
    small (suc (suc (suc zero))) j = three 1 2 0 j (omega arith) (omega arith) (omega arith)
    small (suc (suc (suc (suc zero)))) j = three 2 0 1 j (omega arith) (omega arith) (omega arith)
    small (suc (suc (suc (suc (suc zero))))) j = three 2 1 0 j (omega arith) (omega arith) (omega arith)
    small (suc (suc (suc (suc (suc (suc k)))))) zero = omega arith
    small (suc (suc (suc (suc (suc (suc k)))))) (suc j) = omega arith
