-- RULES: Second placer: best orientation. What a search for the least score finds, where no score is a NaN.
use Rattle.std.specs.Prelude.{◌≡◌, refl, Bool, List, Option, Some, None, is_some, Float}
use Rattle.std.proofs.Common.{sym, ◌∙◌, not-suc-le-zero, arith}
use Rattle.std.proofs.Math.Bool.{true, false, cond}
use Prim.Native.Nat.{ℕ, zero, suc, ◌<◌}
use Rattle.std.specs.Float.Ieee.{lt}
use Rattle.floats.specs.Ops.{none, z}
use Rattle.floats.specs.Weak.{Number, lt_weak, true_false}
use Rattle.lists.specs.Below.{upto}
use Rattle.measures.specs.declared.Container.{Container}
use Rattle.measures.specs.declared.Kind.{Kind}
use Rattle.measures.specs.Orders.{lengths_in}
use Rattle.layer_cursor.specs.declared.LayerCursor.{LayerCursor}
use Rattle.layer_cursor.specs.declared.LayerSpot.{LayerSpot}
use Rattle.layer_cursor.specs.Spot.{spot_of}
use Rattle.layer_state.specs.declared.best.Best.{Best}
use Rattle.layer_state.specs.Best.{score_of, better, best_of}

-- the score of a spot that there is
abbrev pub scored : Option LayerSpot → Float → Float
scored None height = none
scored (Some p) height = score_of p.at height

-- The choice among the first n orientations, and its score: it fits; no other that fits has a lesser score, and those before it that fit have
-- greater ones.
pub record IsLeast (fits : ℕ → Bool) (score : ℕ → Float) (n : ℕ) (b : Best) : Type 0 where
  pub within : b.orientation < n
  pub fits_there : fits b.orientation ≡ true
  pub score_is : b.score ≡ score b.orientation
  pub least : (j : ℕ) → j < n → fits j ≡ true → lt (score j) b.score ≡ false
  pub first : (j : ℕ) → j < b.orientation → fits j ≡ true → lt b.score (score j) ≡ true

-- and there is none exactly where none fits
abbrev pub Least : (ℕ → Bool) → (ℕ → Float) → ℕ → Option Best → Type 0
Least fits score n None = (j : ℕ) → j < n → fits j ≡ false
Least fits score n (Some b) = IsLeast fits score n b

-- what is below a score that another is not below is below that one
beats : (a s c : Float) → Number a → Number s → Number c → lt a s ≡ true → lt c s ≡ false → lt a c ≡ true
beats a s c na ns nc e f = go (lt a c) refl
  where
    go : (v : Bool) → lt a c ≡ v → v ≡ true
    go true g = refl
    go false g = true_false (sym (lt_weak.neg a c s na nc ns e g) ∙ f)

itself : (a : Float) → lt a a ≡ false
itself a = go (lt a a) refl
  where
    go : (v : Bool) → lt a a ≡ v → v ≡ false
    go true g = sym g ∙ lt_weak.asym a a g
    go false g = refl

module _ (fits : ℕ → Bool) (score : ℕ → Float) (n : ℕ) where
  -- one orientation more: the one before stays
  stays : (b : Best) → IsLeast fits score n b → (fits n ≡ true → lt (score n) b.score ≡ false) → IsLeast fits score (suc n) b
  stays b h p =
      record {
        within = let l = h.within in omega arith;
        fits_there = h.fits_there;
        score_is = h.score_is;
        least = upto (λ (j : ℕ). fits j ≡ true → lt (score j) b.score ≡ false) n h.least p;
        first = h.first;
      }

  -- or the new one is taken
  taken : fits n ≡ true → ((j : ℕ) → j < n → fits j ≡ true → lt (score n) (score j) ≡ true)
      → IsLeast fits score (suc n) (record { orientation = n; score = score n })
  taken e p =
      record {
        within = omega arith;
        fits_there = e;
        score_is = refl;
        least =
            upto (λ (j : ℕ). fits j ≡ true → lt (score j) (score n) ≡ false) n (λ j l i. lt_weak.asym (score n) (score j) (p j l i))
            (λ _. itself (score n));
        first = p;
      }

  -- by the test of `better`
  step : (d : Option Best) (p : Option LayerSpot) (height : Float) → fits n ≡ is_some p → score n ≡ scored p height
      → ((j : ℕ) → j < suc n → fits j ≡ true → Number (score j)) → Least fits score n d → Least fits score (suc n) (better d p height n)
  unfolding better
  step None None height ef es numbers h = upto (λ (j : ℕ). fits j ≡ false) n h ef
  step (Some b) None height ef es numbers h = stays b h (λ i. true_false (sym i ∙ ef))
  step None (Some p) height ef es numbers h = rw (← es) (taken ef (λ j l i. true_false (sym i ∙ h j l)))
  step (Some b) (Some p) height ef es numbers h = rw (← es) (go (lt (score n) b.score) refl)
    where
      go : (t : Bool) → lt (score n) b.score ≡ t
          → Least fits score (suc n) (cond t (Some (record { orientation = n; score = score n })) (Some b))
      go false e = stays b h (λ _. e)
      go true e =
          let k : Number b.score = rw h.score_is (numbers b.orientation (let l = h.within in omega arith) h.fits_there) in
          taken ef (λ j l i. beats (score n) b.score (score j) (numbers n (omega arith) ef) k (numbers j (omega arith) i) e (h.least j l i))

module _ (b : Container) (max : List Float) (c : LayerCursor) (k : Kind) where
  abbrev pub fits_in : ℕ → Bool
  fits_in i = is_some (spot_of b max c (lengths_in k i))

  abbrev pub score_in : ℕ → Float
  score_in i = scored (spot_of b max c (lengths_in k i)) (z (lengths_in k i))

  pub least_of : (n : ℕ) → ((j : ℕ) → j < n → fits_in j ≡ true → Number (score_in j)) → Least fits_in score_in n (best_of b max c k n)
  unfolding best_of
  least_of zero numbers = λ j l. absurd (not-suc-le-zero l)
  least_of (suc n) numbers =
      step fits_in score_in n (best_of b max c k n) (spot_of b max c (lengths_in k n)) (z (lengths_in k n)) refl refl numbers
      (least_of n (λ j l. numbers j (omega arith)))
