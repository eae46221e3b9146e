-- Whether a box fits at a point of a state. RULES: First placer: point test
use Rattle.std.proofs.Math.Path.{◌≡◌, refl, sym}
use Rattle.std.proofs.Common.{◌∙◌, eq-or-lt_of_le, le_of_suc-le-suc, not-suc-le-zero, ne_eqb, eq-eqb, ltb-true}
use Rattle.std.specs.Prelude.{Bool, not, cond, ◌&&◌, List, [], eqb, ltb, get_or, Float}
use Rattle.std.proofs.Math.Bool.{true, false}
use Rattle.std.proofs.Math.Logic.{⊎_elim}
use Prim.Native.Nat.{ℕ, zero, suc, ◌<◌, ◌≤◌}
use native.Mathlib.Omega.{arith}
use Rattle.lists.specs.Bools.{and_left, and_right, cond_cases}
use Rattle.measures.specs.Asked.{asked_of}
use Rattle.point_state.specs.declared.ExtremePointSet.{ExtremePointSet}
use Rattle.point_state.specs.All.{all, all_false}
use Rattle.point_state.specs.Stores.{position_at, dimensions_at, sum3}
use Rattle.point_fit.specs.declared.Room.{Room}
use Rattle.point_fit.specs.Fit.{room_of, in_room, apart, far_wall, near_wall}
use Rattle.point_scan.specs.declared.Fitted.{Fitted}
use Rattle.point_scan.specs.declared.Walls.{Walls}

-- a box with these corners is separated from placed box i
unfoldable pub separated : ExtremePointSet → List Float → List Float → ℕ → Bool
separated s at far i =
    apart (far_wall (position_at s i) (dimensions_at s i) (asked_of s.container)) (near_wall (position_at s i) (asked_of s.container)) at far

-- a point passes for a box of these lengths: in the room, and separated from every placed box
unfoldable pub fits_at : ExtremePointSet → List Float → List Float → Bool
fits_at s at size = in_room (room_of s.container) at (sum3 at size) && all (separated s at (sum3 at size)) s.held

-- ---- with the walls of the placed boxes worked out beforehand

-- box i's walls. What stands past the store's end nothing reads.
abbrev pub no_walls : Walls
no_walls = record { far = []; near = [] }

abbrev pub walls_at : List Walls → ℕ → Walls
walls_at walls i = get_or walls i no_walls

abbrev pub apart_by : List Float → List Float → Walls → Bool
apart_by at far w = apart w.far w.near at far

abbrev pub apart_from : List Walls → List Float → List Float → ℕ → Bool
apart_from walls at far i = apart_by at far (walls_at walls i)

-- none of the first n boxes blocks
unfoldable pub none_blocks : List Walls → ℕ → List Float → List Float → Bool
none_blocks walls n at far = all (apart_from walls at far) n

-- the first of the first n numbers at which the test fails, or n
unfoldable pub first_fail : (ℕ → Bool) → ℕ → ℕ
first_fail f zero = 0
first_fail f (suc n) = cond (all f n) (cond (f n) (suc n) n) (first_fail f n)

unfoldable pub first_block : List Walls → ℕ → List Float → List Float → ℕ
first_block walls n at far = first_fail (apart_from walls at far) n

-- the box of the hint if it blocks, else the first that does, or n
unfoldable pub blocks : List Walls → ℕ → ℕ → List Float → List Float → Bool
blocks walls n hint at far = ltb hint n && not (apart_from walls at far hint)

unfoldable pub block_of : List Walls → ℕ → ℕ → List Float → List Float → ℕ
block_of walls n hint at far = cond (blocks walls n hint at far) hint (first_block walls n at far)

-- the hint for the next time: in the room a box that blocks, and outside it the hint as it was
unfoldable pub hint_after : Room → List Walls → ℕ → ℕ → List Float → List Float → ℕ
hint_after room walls n hint at size = cond (in_room room at (sum3 at size)) (block_of walls n hint at (sum3 at size)) hint

abbrev pub passes_by : Room → List Walls → ℕ → List Float → List Float → Bool
passes_by room walls held at size = in_room room at (sum3 at size) && none_blocks walls held at (sum3 at size)

-- what the fit test answers
pub record FitIs (room : Room) (walls : List Walls) (held hint : ℕ) (at size : List Float) (r : Fitted) : Type 0 where
  pub passes_is : r.passes ≡ passes_by room walls held at size
  pub block_is : r.block ≡ hint_after room walls held hint at size

-- ---- laws

module _ (f : ℕ → Bool) where
  pub fail_none : (n : ℕ) → all f n ≡ true → first_fail f n ≡ n
  unfolding first_fail all
  fail_none zero e = refl
  fail_none (suc n) e = rw (and_left (all f n) (f n) e, and_right (all f n) (f n) e)

  pub fail_at : (n i : ℕ) → i < n → all f i ≡ true → f i ≡ false → first_fail f n ≡ i
  unfolding first_fail
  fail_at zero i l a e = absurd (not-suc-le-zero l)
  fail_at (suc n) i l a e =
      ⊎_elim (λ q. rw (← q, a, e)) (λ m. rw (all_false f n i m e) (fail_at n i m a e)) (eq-or-lt_of_le (le_of_suc-le-suc l))

  fail_below : (n : ℕ) → all f n ≡ false → first_fail f n < n
  unfolding first_fail all
  fail_below zero e = absurd (let z : ◌≡◌ {A = Bool} true false = e in no z)
    where
      no : true ≡ false → ⊥
      no z = let q : ◌≡◌ {A = ℕ} 0 1 = cc in omega arith
  fail_below (suc n) e =
      cond_cases (λ (k : ℕ). k < suc n) (all f n)
      (λ a. cond_cases (λ (k : ℕ). k < suc n) (f n) (λ g. absurd (both a g)) (λ _. omega arith))
      (λ a. let h = fail_below n a in omega arith)
    where
      both : all f n ≡ true → f n ≡ true → ⊥
      both a g = let z : ◌≡◌ {A = Bool} true false = sym (rw (a, g)) ∙ e in let q : ◌≡◌ {A = ℕ} 0 1 = cc in omega arith

  pub fail_le : (n : ℕ) → first_fail f n ≤ n
  fail_le n = go (all f n) refl
    where
      go : (b : Bool) → all f n ≡ b → first_fail f n ≤ n
      go true e = let h = fail_none n e in omega arith
      go false e = let h = fail_below n e in omega arith

  pub fail_all : (n : ℕ) → eqb (first_fail f n) n ≡ all f n
  fail_all n = go (all f n) refl
    where
      go : (b : Bool) → all f n ≡ b → eqb (first_fail f n) n ≡ b
      go true e = eq-eqb (first_fail f n) n (fail_none n e)
      go false e = let h = fail_below n e in ne_eqb (first_fail f n) n (λ q. omega arith)

pub first_le : (walls : List Walls) (n : ℕ) (at far : List Float) → first_block walls n at far ≤ n
unfolding first_block
first_le walls n at far = fail_le (apart_from walls at far) n

-- the number found is n exactly where none blocks
pub block_all : (walls : List Walls) (n hint : ℕ) (at far : List Float) → eqb (block_of walls n hint at far) n ≡ none_blocks walls n at far
unfolding block_of blocks none_blocks first_block
block_all walls n hint at far =
    cond_cases (λ (k : ℕ). eqb k n ≡ all (apart_from walls at far) n) (ltb hint n && not (apart_from walls at far hint))
    (λ e. blocked (ltb-true hint n (and_left (ltb hint n) _ e)) (not_not (apart_from walls at far hint) (and_right (ltb hint n) _ e)))
    (λ _. fail_all (apart_from walls at far) n)
  where
    not_not : (b : Bool) → not b ≡ true → b ≡ false
    not_not true e = sym e
    not_not false e = refl

    blocked : hint < n → apart_from walls at far hint ≡ false → eqb hint n ≡ all (apart_from walls at far) n
    blocked l e = ne_eqb hint n (λ q. omega arith) ∙ sym (all_false (apart_from walls at far) n hint l e)
