-- The orientation that `place_best` takes, offered by itself, gives the same answer; and so does orientation 0 where it takes none.
use Rattle.std.specs.Prelude.{◌≡◌, Bool, cond, List, Option, Some, None, is_some, option_and_then, Float}
use Rattle.std.proofs.Math.Path.{refl}
use Rattle.std.proofs.Common.{sym, ◌∙◌, ap, ⊎_elim, le_refl, eq-or-lt_of_le, le_of_suc-le-suc, not-suc-le-zero, mod-eq_of_lt, true≢false, arith}
use Rattle.std.proofs.Math.Bool.{true, false}
use Prim.Native.Nat.{ℕ, zero, suc, ◌%◌, ◌<◌}
use Rattle.std.proofs.Math.ListN.{length}
use Rattle.std.specs.Float.Ieee.{lt}
use Rattle.floats.specs.Ops.{z}
use Rattle.measures.specs.declared.Container.{Container}
use Rattle.measures.specs.declared.Kind.{Kind}
use Rattle.measures.specs.Orders.{share_of, lengths_in}
use Rattle.layer_cursor.specs.declared.LayerCursor.{LayerCursor}
use Rattle.layer_cursor.specs.declared.LayerSpot.{LayerSpot}
use Rattle.layer_state.specs.declared.stand.Stand.{Stand}
use Rattle.layer_state.specs.declared.stand.Step.{Step}
use Rattle.layer_state.specs.declared.best.Best.{Best}
use Rattle.layer_cursor.specs.Spot.{spot_of}
use Rattle.layer_state.specs.Stand.{mass_allows, spot_in, settled, turned_of, place_of}
use Rattle.layer_state.specs.Best.{score_of, better, best_of, best_for, place_best_of}

-- what is known of the best of n orientations: it is one of them and fits, or there is none and none fits
abbrev pub Chosen : (ℕ → Bool) → ℕ → Option Best → Type 0
Chosen fits n None = (o : ℕ) → o < n → fits o ≡ false
Chosen fits n (Some b) = (b.orientation < n) × (fits b.orientation ≡ true)

module _ (fits : ℕ → Bool) (n : ℕ) where
  better_chosen : (b : Option Best) (p : Option LayerSpot) (height : Float) → is_some p ≡ fits n → Chosen fits n b
      → Chosen fits (suc n) (better b p height n)
  unfolding better
  better_chosen None None height e c = λ o l. ⊎_elim (λ d. rw d (sym e)) (λ m. c o m) (eq-or-lt_of_le (le_of_suc-le-suc l))
  better_chosen (Some b) None height e c = (let l = c.0 in omega arith, c.1)
  better_chosen None (Some p) height e c = (le_refl (suc n), sym e)
  better_chosen (Some b) (Some p) height e c = go (lt (score_of p.at height) b.score)
    where
      go : (t : Bool) → Chosen fits (suc n) (cond t (Some (record { orientation = n; score = score_of p.at height })) (Some b))
      go true = (le_refl (suc n), sym e)
      go false = (let l = c.0 in omega arith, c.1)

module _ (b : Container) (max : List Float) (c : LayerCursor) (k : Kind) where
  -- whether the box fits in an orientation
  abbrev pub fits_in : ℕ → Bool
  fits_in o = is_some (spot_of b max c (lengths_in k o))

  pub chosen : (n : ℕ) → Chosen fits_in n (best_of b max c k n)
  unfolding best_of
  chosen zero = λ o l. absurd (not-suc-le-zero l)
  chosen (suc n) = better_chosen fits_in n (best_of b max c k n) (spot_of b max c (lengths_in k n)) (z (lengths_in k n)) refl (chosen n)

-- ---- the orientation of a step, 0 where nothing was placed
abbrev pub seed_for : Option Step → ℕ
seed_for None = 0
seed_for (Some r) = r.orientation

pub some_turn : (rule : ℕ) → 0 < length (share_of rule)
some_turn zero = omega arith
some_turn (suc zero) = omega arith
some_turn (suc (suc n)) = omega arith

module _ (s : Stand) (k : Kind) where
  settled_no : (o : ℕ) (p : Option LayerSpot) → is_some p ≡ false → settled s k o p ≡ None
  unfolding settled
  settled_no o None e = refl
  settled_no o (Some p) e = absurd (true≢false e)

  settled_seed : (o : ℕ) (p : Option LayerSpot) → is_some p ≡ true → seed_for (settled s k o p) ≡ o
  unfolding settled
  settled_seed o None e = absurd (true≢false (sym e))
  settled_seed o (Some p) e = refl

  pub best_again : place_of s k (seed_for (place_best_of s k) % length (share_of k.rule)) ≡ place_best_of s k
  unfolding place_of place_best_of
  best_again = go (mass_allows s k) (best_for s k) (chosen s.container s.max s.cursor k n)
    where
      n : ℕ
      n = length (share_of k.rule)

      turned : Best → Option Step
      turned b = turned_of s k b.orientation

      go : (m : Bool) (b : Option Best) → Chosen (fits_in s.container s.max s.cursor k) n b
          → cond m (turned_of s k (seed_for (cond m (option_and_then turned b) None) % n)) None ≡ cond m (option_and_then turned b) None
      go false b h = refl
      go true (Some b) h =
          let o = b.orientation in
          ap (λ (i : ℕ). turned_of s k i) (ap (λ (i : ℕ). i % n) (settled_seed o (spot_in s k o) h.1) ∙ mod-eq_of_lt h.0)
      go true None h =
          ap (λ (i : ℕ). turned_of s k i) (mod-eq_of_lt (some_turn k.rule)) ∙ settled_no 0 (spot_in s k 0) (h 0 (some_turn k.rule))
