-- The pick of a box is what the place calls find, one orientation after the other.
use Rattle.std.specs.Prelude.{◌≡◌, refl, cond, Option, Some, None, is_some}
use Rattle.std.specs.Option.{option_or, option_map}
use Rattle.std.proofs.Common.{eq-eqb}
use Prim.Native.Nat.{ℕ, zero, suc}
use Rattle.measures.specs.declared.Kind.{Kind}
use Rattle.measures.specs.Orders.{lengths_in}
use Rattle.point_state.specs.declared.ExtremePointSet.{ExtremePointSet}
use Rattle.point_grow.specs.Grow.{after_box}
use Rattle.point_scan.specs.Choose.{best_of}
use Rattle.point_place.specs.Place.{stood, refusal_of, label_of, placed_by, tried_of}
use Rattle.point_step.specs.declared.Pick.{Pick}
use Rattle.point_step.specs.Pick.{pick_by}
use Rattle.point_stow.specs.Stow.{Attempt, attempt_of}

-- the state after the pick's box
abbrev pub picked_of : ExtremePointSet → Kind → ℕ → Pick → ExtremePointSet
picked_of s kind instance p = after_box s p.index (label_of kind instance) (lengths_in kind p.orientation)

pub record Agrees (s : ExtremePointSet) (kind : Kind) (instance : ℕ) (a : Attempt) (q : Option Pick) : Type 0 where
  pub same_found : stood a.tried.answer ≡ is_some q
  pub same_orientation : (p : Pick) → q ≡ Some p → a.orientation ≡ p.orientation
  pub same_next : (p : Pick) → q ≡ Some p → a.tried.next ≡ picked_of s kind instance p

-- the first that stands, or the other
either_agrees : (s : ExtremePointSet) (kind : Kind) (instance : ℕ) (a b : Attempt) (q r : Option Pick) → Agrees s kind instance a q → Agrees s kind instance b r
    → Agrees s kind instance (cond (stood a.tried.answer) a b) (option_or q r)
either_agrees s kind instance a b (Some p) r h k = rw h.same_found h
either_agrees s kind instance a b None r h k = rw h.same_found k

module _ (s : ExtremePointSet) (kind : Kind) (instance : ℕ) (e : refusal_of s.live s.held kind ≡ 0) where
  one_agrees : (o : ℕ) (c : Option ℕ)
      → Agrees s kind instance (record { orientation = o; tried = placed_by s (label_of kind instance) (lengths_in kind o) c })
      (option_map (λ k. record { index = k; orientation = o }) c)
  unfolding placed_by
  one_agrees o (Some k) =
      record {
        same_found = refl;
        same_orientation = λ p f. let q : record { index = k; orientation = o } ≡ p = cc in rw (← q);
        same_next = λ p f. let q : record { index = k; orientation = o } ≡ p = cc in rw (← q);
      }
  one_agrees o None = record { same_found = refl; same_orientation = λ p f. absurd cc; same_next = λ p f. absurd cc }

  abbrev best_at : ℕ → Option ℕ
  best_at o = best_of s (lengths_in kind o)

  pub attempt_agrees : (n : ℕ) → Agrees s kind instance (attempt_of s kind instance n) (pick_by best_at n)
  unfolding attempt_of pick_by tried_of
  attempt_agrees zero = record { same_found = refl; same_orientation = λ p f. absurd cc; same_next = λ p f. absurd cc }
  attempt_agrees (suc n) =
      either_agrees s kind instance _ _ _ _ (attempt_agrees n) (rw (eq-eqb (refusal_of s.live s.held kind) 0 e) (one_agrees n (best_at n)))
