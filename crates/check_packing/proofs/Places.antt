-- The place of a kind in a column of ids is its place on the sheet.
use mathlib.Core.Path.{◌≡◌, refl, sym}
use mathlib.Core.Logic.{⊎_elim}
use mathlib.Core.List.{List}
use Prim.Native.Nat.{ℕ, zero, suc, ◌<◌}
use native.Mathlib.Nat.{eq-or-lt_of_le, le_of_suc-le-suc, not-suc-le-zero}
use native.Mathlib.Omega.{arith}
use borrow.Author.Tests.{lt-ltb, le-ltb, eq-eqb, ne_eqb}
use lib.ListN.{get_or}
use Rattle.sheet.specs.declared.Sheet.{Sheet}
use Rattle.check_packing.specs.Lines.{kind_below}
use Rattle.check_packing.specs.Columns.{kind_id, place_below, Ids}

module _ (ids : List ℕ) (id : ℕ) where
  -- not found among k, and not at k
  pub place_miss : (k : ℕ) → place_below ids id k ≡ k → (get_or ids k 0 ≡ id → ⊥) → place_below ids id (suc k) ≡ suc k
  unfolding place_below
  place_miss k e h = rw (e, le-ltb k k (omega arith), ne_eqb (get_or ids k 0) id h)

  -- not found among k, and found at k
  pub place_hit : (k n : ℕ) → k < n → place_below ids id k ≡ k → get_or ids k 0 ≡ id → place_below ids id n ≡ k
  unfolding place_below
  place_hit k zero l e h = absurd (not-suc-le-zero l)
  place_hit k (suc n) l e h =
      ⊎_elim (λ q. found (sym q)) (λ q. rw (place_hit k n q e h, lt-ltb k n q)) (eq-or-lt_of_le (le_of_suc-le-suc l))
    where
      found : n ≡ k → place_below ids id (suc n) ≡ k
      found q = rw q (rw (e, le-ltb k k (omega arith), eq-eqb (get_or ids k 0) id h))

pub place_kind : (s : Sheet) (ids : List ℕ) (id n : ℕ) → Ids s n ids → place_below ids id n ≡ kind_below s.kinds id n
unfolding place_below kind_below kind_id
place_kind s ids id zero h = refl
place_kind s ids id (suc n) h = rw (place_kind s ids id n (λ k l. h k (omega arith)), h n (omega arith))
