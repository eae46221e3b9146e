-- The scan finds the least point that passes, and says that there is none exactly when none passes, where no point holds a NaN.
use Rattle.std.specs.Prelude.{◌≡◌, true, false, ◌&&◌, cond, List, Float, Option, Some, None}
use Rattle.std.proofs.Math.Path.{refl}
use Rattle.std.proofs.Common.{sym, ◌∙◌, not-suc-le-zero, arith}
use Rattle.std.proofs.Math.Bool.{Bool}
use Prim.Native.Nat.{ℕ, zero, suc, ◌<◌}
use Rattle.floats.specs.Ops.{x, y, z}
use Rattle.lists.specs.Below.{upto}
use Rattle.floats.specs.Weak.{Number, Weak, on_weak, lex_weak, true_false}
use Rattle.point_state.specs.Stores.{point_in}
use Rattle.point_fit.specs.Sooner.{sooner}
use Rattle.point_scan.specs.Choose.{asked, takes, step_by, scan_by, scan_found}

-- a point without a NaN
pub record Sound (v : List Float) : Type 0 where
  pub x_is : Number (x v)
  pub y_is : Number (y v)
  pub z_is : Number (z v)

pub sooner_weak : Weak Sound sooner
unfolding sooner
sooner_weak = lex_weak (on_weak z (λ v h. h.z_is)) (lex_weak (on_weak y (λ v h. h.y_is)) (on_weak x (λ v h. h.x_is)))

-- the choice c among the first n points: it passes and no point that passes stands before it, or none passes
pub record Right (passes : ℕ → Bool) (points : List (List Float)) (n : ℕ) (c : Option ℕ) : Type 0 where
  pub passing : (k : ℕ) → c ≡ Some k → passes k ≡ true
  pub least : (k : ℕ) → c ≡ Some k → (j : ℕ) → j < n → passes j ≡ true → sooner (point_in points j) (point_in points k) ≡ false
  pub absent : c ≡ None → (j : ℕ) → j < n → passes j ≡ false

module _ (passes : ℕ → Bool) (points : List (List Float)) where
  -- point j does not stand before point k
  abbrev Behind : ℕ → ℕ → Type 0
  Behind k j = passes j ≡ true → sooner (point_in points j) (point_in points k) ≡ false

  -- a choice, by the point that it is
  right_at : (n k : ℕ) → passes k ≡ true → ((j : ℕ) → j < n → Behind k j) → Right passes points n (Some k)
  right_at n k g l =
      record {
        passing = λ i e. let q : k ≡ i = cc in rw (← q) g;
        least = λ i e. let q : k ≡ i = cc in rw (← q) l;
        absent = λ e. absurd cc;
      }

  itself : (n : ℕ) (v : Bool) → sooner (point_in points n) (point_in points n) ≡ v → v ≡ false
  itself n false e = refl
  itself n true e = sym e ∙ sooner_weak.asym (point_in points n) (point_in points n) e

  step_right : (n : ℕ) (c : Option ℕ) → ((k : ℕ) → c ≡ Some k → k < n) → ((j : ℕ) → j < suc n → Sound (point_in points j)) → Right passes points n c
      → Right passes points (suc n) (step_by (passes n) points n c)
  unfolding step_by takes asked
  step_right n None w sound h = go (passes n) refl
    where
      go : (g : Bool) → passes n ≡ g → Right passes points (suc n) (cond g (Some n) None)
      go true e = right_at (suc n) n e (upto (Behind n) n (λ j l q. true_false (sym q ∙ h.absent refl j l)) (λ _. itself n _ refl))
      go false e =
          record {
            passing = λ k q. absurd cc;
            least = λ k q. absurd cc;
            absent = λ q. upto (λ j. passes j ≡ false) n (h.absent refl) e;
          }
  step_right n (Some k) w sound h = go (sooner (point_in points n) (point_in points k)) refl (passes n) refl
    where
      -- j does not stand before n, which stands before the choice so far
      behind : sooner (point_in points n) (point_in points k) ≡ true → (j : ℕ) → j < n → passes j ≡ true → (v : Bool)
          → sooner (point_in points j) (point_in points n) ≡ v → v ≡ false
      behind s j l g false e = refl
      behind s j l g true e =
          let a = point_in points n in
          let b = point_in points j in
          let m = w k refl in
          true_false (sym (sooner_weak.neg a b (point_in points k) (sound n (omega arith)) (sound j (omega arith))
          (sound k (omega arith)) s (sooner_weak.asym b a e)) ∙ h.least k refl j l g)

      keep : Behind k n → Right passes points (suc n) (Some k)
      keep e = right_at (suc n) k (h.passing k refl) (upto (Behind k) n (h.least k refl) e)

      go : (s : Bool) → sooner (point_in points n) (point_in points k) ≡ s → (g : Bool) → passes n ≡ g
          → Right passes points (suc n) (cond (s && g) (Some n) (Some k))
      go true es true eg = right_at (suc n) n eg (upto (Behind n) n (λ j l q. behind es j l q _ refl) (λ _. itself n _ refl))
      go true es false eg = keep (λ q. true_false (sym q ∙ eg))
      go false es g eg = keep (λ _. es)

  pub scan_right : (n : ℕ) → ((j : ℕ) → j < n → Sound (point_in points j)) → Right passes points n (scan_by passes points n)
  unfolding scan_by
  scan_right zero sound = record { passing = λ k e. absurd cc; least = λ k e. absurd cc; absent = λ _ j l. absurd (not-suc-le-zero l) }
  scan_right (suc n) sound =
      step_right n (scan_by passes points n) (scan_found passes points n) sound (scan_right n (λ j l. sound j (omega arith)))
