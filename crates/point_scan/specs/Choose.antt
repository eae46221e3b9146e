-- The choice of a point: of the stored ones that pass, the least by z, then y, then x, found by a scan. RULES: First placer: point test
use Rattle.std.proofs.Math.Path.{◌≡◌, refl}
use Rattle.std.specs.Prelude.{Bool, true, false, ◌&&◌, List, Float, Option, Some, None}
use Rattle.std.proofs.Math.Bool.{cond}
use Prim.Native.Nat.{ℕ, zero, suc, ◌<◌}
use native.Mathlib.Omega.{arith}
use Rattle.point_state.specs.declared.ExtremePointSet.{ExtremePointSet}
use Rattle.point_state.specs.Stores.{point_in, point_at}
use Rattle.point_fit.specs.Sooner.{sooner}
use Rattle.point_scan.specs.Passes.{fits_at}

-- point v is tested while there is no choice yet, or where it stands before the choice so far
unfoldable pub asked : List (List Float) → List Float → Option ℕ → Bool
asked points v None = true
asked points v (Some k) = sooner v (point_in points k)

-- point i takes the place of the choice so far: it is tested, and it passes
unfoldable pub takes : Bool → List (List Float) → ℕ → Option ℕ → Bool
takes passes points i c = asked points (point_in points i) c && passes

-- the choice after point i
unfoldable pub step_by : Bool → List (List Float) → ℕ → Option ℕ → Option ℕ
step_by passes points i c = cond (takes passes points i c) (Some i) c

-- the choice among the first n points, by whether each passes
unfoldable pub scan_by : (ℕ → Bool) → List (List Float) → ℕ → Option ℕ
scan_by passes points zero = None
scan_by passes points (suc i) = step_by (passes i) points i (scan_by passes points i)

-- the least stored point at which a box of these lengths fits
unfoldable pub best_of : ExtremePointSet → List Float → Option ℕ
best_of s size = scan_by (λ i. fits_at s (point_at s i) size) s.points s.live

-- ---- laws

module _ (passes : ℕ → Bool) (points : List (List Float)) where
  -- a point that was chosen is one of those looked at
  pub scan_found : (n k : ℕ) → scan_by passes points n ≡ Some k → k < n
  unfolding scan_by step_by
  scan_found zero k = λ e. absurd cc
  scan_found (suc n) k = go (takes (passes n) points n (scan_by passes points n)) (scan_found n k)
    where
      go : (t : Bool) → (scan_by passes points n ≡ Some k → k < n) → cond t (Some n) (scan_by passes points n) ≡ Some k → k < suc n
      go true h e = let q : n ≡ k = cc in omega arith
      go false h e = let l = h e in omega arith

  -- tests that agree make the same choice
  pub scan_same : (other : ℕ → Bool) (n : ℕ) → ((i : ℕ) → passes i ≡ other i) → scan_by passes points n ≡ scan_by other points n
  unfolding scan_by
  scan_same other zero h = refl
  scan_same other (suc n) h = rw (h n, scan_same other n h)

asked_alike : (p q : List (List Float)) (n : ℕ) (c : Option ℕ) → ((i : ℕ) → i < suc n → point_in p i ≡ point_in q i) → ((k : ℕ) → c ≡ Some k → k < n)
    → asked p (point_in p n) c ≡ asked q (point_in q n) c
unfolding asked
asked_alike p q n None h f = refl
asked_alike p q n (Some k) h f = let l = f k refl in rw (h n (omega arith), h k (omega arith))

-- so do tests and points that agree below n
pub scan_alike : (passes other : ℕ → Bool) (p q : List (List Float)) (n : ℕ) → ((i : ℕ) → i < n → passes i ≡ other i)
    → ((i : ℕ) → i < n → point_in p i ≡ point_in q i) → scan_by passes p n ≡ scan_by other q n
unfolding scan_by step_by takes
scan_alike passes other p q zero h k = refl
scan_alike passes other p q (suc n) h k =
    let e = scan_alike passes other p q n (λ i l. h i (omega arith)) (λ i l. k i (omega arith)) in
    rw (h n (omega arith), e, asked_alike p q n (scan_by other q n) k (scan_found other q n))
