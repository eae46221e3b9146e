-- The places of boxes by falling volume. RULES: First placer: run
use Rattle.std.specs.Prelude.{◌≡◌, cond, List, [], ◌∷◌, ℕ, zero, suc, ◌≤◌, min, length, get_or, take, drop, Float}
use Rattle.std.proofs.Common.{arith}
use Rattle.std.specs.Float.{nan}
use Rattle.std.specs.Float.Ieee.{lt}

-- box t put behind every box of a falling list that is not of smaller volume
unfoldable pub insert : (ℕ → Float) → ℕ → List ℕ → List ℕ
insert vol t [] = t ∷ []
insert vol t (u ∷ l) = cond (lt (vol u) (vol t)) (t ∷ u ∷ l) (u ∷ insert vol t l)

-- by falling volume, equal volumes in listing order: the places in the listing of the first n boxes, in that order
unfoldable pub falling_of : (ℕ → Float) → ℕ → List ℕ
falling_of vol zero = []
falling_of vol (suc t) = insert vol t (falling_of vol t)

-- as many of n boxes as have a volume and a cell
abbrev pub sortable : ℕ → List Float → List ℕ → ℕ
sortable n volumes places = min n (min (length volumes) (length places))

-- a store of places sorted by these volumes: the first n in that order, as many as have a volume and a cell, and the cells past them as they were
pub record Falls (volumes : List Float) (n : ℕ) (old r : List ℕ) : Type 0 where
  pub first : take (sortable n volumes old) r ≡ falling_of (λ t. get_or volumes t nan) (sortable n volumes old)
  pub rest : drop (sortable n volumes old) r ≡ drop (sortable n volumes old) old

-- ---- laws

-- all of them, where each has both
pub sorts_all : (n : ℕ) (volumes : List Float) (places : List ℕ) → n ≤ length volumes → n ≤ length places → sortable n volumes places ≡ n
sorts_all n volumes places v p = omega arith
