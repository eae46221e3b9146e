-- RULES: Second placer: best orientation. The best of the orientations that a kind may have (packing_utils.rs, `place_best`).
use Rattle.std.specs.Prelude.{◌≡◌, refl, Bool, true, false, cond, List, ℕ, zero, suc, ◌≤◌, length, Option, Some, None, option_and_then, Float}
use Rattle.std.proofs.Common.{arith}
use Rattle.std.specs.Float.{binary64}
use Rattle.std.specs.Float.Ieee.{of_bits, round, lt}
use Rattle.floats.specs.Ops.{◌⊕◌, ◌⊗◌, x, y, z}
use Rattle.measures.specs.declared.Container.{Container}
use Rattle.measures.specs.declared.Kind.{Kind}
use Rattle.measures.specs.Orders.{share_of, lengths_in}
use Rattle.layer_cursor.specs.declared.LayerCursor.{LayerCursor}
use Rattle.layer_cursor.specs.declared.LayerSpot.{LayerSpot}
use Rattle.layer_state.specs.declared.stand.Stand.{Stand}
use Rattle.layer_state.specs.declared.stand.Step.{Step}
use Rattle.layer_state.specs.declared.best.Best.{Best}
use Rattle.layer_cursor.specs.Spot.{spot_of}
use Rattle.layer_state.specs.Stand.{mass_allows, turned_of, after_step}

-- the weights of the score: 1,000,000, 1,000 and the float nearest to a tenth
abbrev pub million : Float
million = of_bits binary64 0x412E848000000000

abbrev pub thousand : Float
thousand = of_bits binary64 0x408F400000000000

abbrev pub tenth : Float
tenth = of_bits binary64 0x3FB999999999999A

pub million_is : million ≡ round binary64 false 1000000 1
unfolding of_bits round
million_is = refl

pub thousand_is : thousand ≡ round binary64 false 1000 1
unfolding of_bits round
thousand_is = refl

pub tenth_is : tenth ≡ round binary64 false 1 10
unfolding of_bits round
tenth_is = refl

-- A spot's score, the less the better: z a million times, y a thousand times, x, and the box's height times a tenth, summed from the left.
abbrev pub score_of : List Float → Float → Float
score_of at height = z at ⊗ million ⊕ y at ⊗ thousand ⊕ x at ⊕ height ⊗ tenth

-- a later orientation takes the place of an earlier one only where its score is less, so that the first of equals stays
abbrev pub wins : Option Best → Float → Bool
wins None score = true
wins (Some b) score = lt score b.score

unfoldable pub better : Option Best → Option LayerSpot → Float → ℕ → Option Best
better b None height o = b
better b (Some p) height o = cond (wins b (score_of p.at height)) (Some (record { orientation = o; score = score_of p.at height })) b

-- the best of orientations 0 to n − 1; none where the box fits in none of them
unfoldable pub best_of : Container → List Float → LayerCursor → Kind → ℕ → Option Best
best_of b max c k zero = None
best_of b max c k (suc o) = better (best_of b max c k o) (spot_of b max c (lengths_in k o)) (z (lengths_in k o)) o

-- the best of all that the kind's rule allows
abbrev pub best_for : Stand → Kind → Option Best
best_for s k = best_of s.container s.max s.cursor k (length (share_of k.rule))

-- the box in that orientation, if there is one
abbrev pub best_step : Stand → Kind → Option Step
best_step s k = option_and_then (λ (b : Best). turned_of s k b.orientation) (best_for s k)

-- the mass is tested before a spot is looked for. RULES: Second placer: mass.
unfoldable pub place_best_of : Stand → Kind → Option Step
place_best_of s k = cond (mass_allows s k) (best_step s k) None

-- ---- no rule allows more than six
pub few : (rule : ℕ) → length (share_of rule) ≤ 6
few zero = omega arith
few (suc zero) = omega arith
few (suc (suc n)) = omega arith

-- ---- no leaves everything as it was
pub best_stays : (s : Stand) (k : Kind) → place_best_of s k ≡ None → after_step s (place_best_of s k) ≡ s
best_stays s k e = rw e refl
