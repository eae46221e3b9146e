-- The lines of a fill by layers are in range: a box is placed only where it ends within the far limits.
use Rattle.std.specs.Prelude.{◌≡◌, false, List, [], ◌∷◌, ℕ, zero, suc, ◌<◌, ◌≤◌, get_or, Option, Some, None, IfSome, option_and_then, Float}
use Rattle.std.proofs.Common.{arith}
use Rattle.std.specs.Float.Ieee.{lt}
use Rattle.floats.specs.Ops as Ops
use Rattle.floats.specs.Ops.{◌⊕◌}
use Rattle.domain.specs.Bounds.{most_boxes}
use Rattle.lists.specs.Bools.{or_left, or_right}
use Rattle.measures.specs.declared.Container.{Container}
use Rattle.measures.specs.declared.Kind.{Kind}
use Rattle.measures.specs.Orders.{lengths_in}
use Rattle.measures.specs.Faults.{measure_fault}
use Rattle.sheet.specs.Sheets.{no_kind}
use Rattle.plan_boxes.specs.Turns.{turn_of}
use Rattle.layer_cursor.specs.declared.LayerCursor.{LayerCursor}
use Rattle.layer_cursor.specs.declared.LayerSpot.{LayerSpot}
use Rattle.layer_state.specs.declared.stand.Stand.{Stand}
use Rattle.layer_state.specs.declared.stand.Step.{Step}
use Rattle.layer_state.specs.declared.best.Best.{Best}
use Rattle.layer_fill.specs.declared.LayerFill.{LayerFill}
use Rattle.layer_cursor.specs.Spot.{over, turn_to, spot_of}
use Rattle.layer_state.specs.Stand.{new_of, mass_allows, spot_in, settled, turned_of}
use Rattle.layer_state.specs.Best.{best_for, place_best_of}
use Rattle.layer_fill.specs.Fill.{empty}
use Rattle.lists.specs.Bools.{cond_cases}
use Rattle.layer_plan.specs.Run.{offered, run_from, run_few}
use Rattle.layer_plan.specs.Offers.{best_offer}
use Rattle.plan_laws.specs.Spots.{Lengths, lengths_in_lem, Sized, InRange}
use Rattle.plan_laws.specs.Layers.{Ahead, turn_ahead, past_ahead, Right, Kept, Spot, InOrder, empty_right, took_right}
use Rattle.plan_laws.proofs.Spots.{layer_axis}

module _ (b : Container) (sz : Sized b) where
  -- a box at the cursor that is over on no axis
  spot_range : (c : LayerCursor) (size : List Float) → Lengths size → Ahead c → over (new_of b).max c size ≡ false → InRange (c.x ∷ c.y ∷ c.z ∷ [])
  spot_range c size l h e =
      let m = (new_of b).max in
      let f = or_right (lt (Ops.x m) (c.x ⊕ Ops.x size)) _ e in
      record {
        x_is =
            layer_axis (Ops.x b.size) b.margin c.x (Ops.x size) sz.lengths.x_is sz.margin h.x_is l.x_is
            (or_left (lt (Ops.x m) (c.x ⊕ Ops.x size)) _ e);
        y_is =
            layer_axis (Ops.y b.size) b.margin c.y (Ops.y size) sz.lengths.y_is sz.margin h.y_is l.y_is
            (or_left (lt (Ops.y m) (c.y ⊕ Ops.y size)) _ f);
        z_is =
            layer_axis (Ops.z b.size) b.margin c.z (Ops.z size) sz.lengths.z_is sz.margin h.z_is l.z_is
            (or_right (lt (Ops.y m) (c.y ⊕ Ops.y size)) _ f);
      }

  spot_right : (c : LayerCursor) (size : List Float) → Lengths size → Ahead c → IfSome (spot_of b (new_of b).max c size) (Spot b sz)
  unfolding spot_of
  spot_right c size l h =
      let m = (new_of b).max in
      let t = turn_ahead b m sz c size h in
      cond_cases (λ (p : Option LayerSpot). IfSome p (Spot b sz)) (over m (turn_to b m c size) size) (λ _. tt)
      (λ e. record { range = spot_range (turn_to b m c size) size l t e; next_ahead = past_ahead b m sz (turn_to b m c size) size l t })

  settled_kept : (s : Stand) (k : Kind) (o : ℕ) (p : Option LayerSpot) → Right b s → IfSome p (Spot b sz) → IfSome (settled s k o p) (Kept b)
  unfolding settled
  settled_kept s k o None r q = tt
  settled_kept s k o (Some p) r q =
      record { spot = q.range; stand = record { container_is = r.container_is; max_is = r.max_is; ahead = q.next_ahead } }

  pub turned_kept : (s : Stand) (k : Kind) (o : ℕ) → measure_fault k ≡ false → Right b s → IfSome (turned_of s k o) (Kept b)
  turned_kept s k o e r =
      settled_kept s k o (spot_in s k o) r (rw (r.container_is, r.max_is) (spot_right s.cursor (lengths_in k o) (lengths_in_lem k o e) r.ahead))

  pub best_kept : (s : Stand) (k : Kind) → measure_fault k ≡ false → Right b s → IfSome (place_best_of s k) (Kept b)
  unfolding place_best_of
  best_kept s k e r = cond_cases (λ (t : Option Step). IfSome t (Kept b)) (mass_allows s k) (λ _. go (best_for s k)) (λ _. tt)
    where
      go : (d : Option Best) → IfSome (option_and_then (λ (d : Best). turned_of s k d.orientation) d) (Kept b)
      go None = tt
      go (Some d) = turned_kept s k d.orientation e r

offered_right : (b : Container) (f : LayerFill) (kinds : List Kind) (n : ℕ) → Sized b → f.count < most_boxes
    → measure_fault (get_or kinds (turn_of kinds n).kind no_kind) ≡ false → InOrder b f → InOrder b (offered f kinds (best_offer kinds n))
unfolding offered best_offer
offered_right b f kinds n s room e h =
    let k = get_or kinds (turn_of kinds n).kind no_kind in
    took_right b f (place_best_of f.stand k) k.id (turn_of kinds n).instance room h (best_kept b s f.stand k e h.stand)

-- every fill of boxes of right kinds
pub fill_right : (b : Container) (kinds : List Kind) (n : ℕ) → Sized b → n ≤ most_boxes
    → ((t : ℕ) → t < n → measure_fault (get_or kinds (turn_of kinds t).kind no_kind) ≡ false) → InOrder b (run_from (empty b) kinds (best_offer kinds) n)
unfolding run_from
fill_right b kinds zero s few right = empty_right b s
fill_right b kinds (suc n) s few right =
    let c = run_few (empty b) kinds (best_offer kinds) n in
    offered_right b (run_from (empty b) kinds (best_offer kinds) n) kinds n s (omega arith) (right n (omega arith))
    (fill_right b kinds n s (omega arith) (λ t l. right t (omega arith)))
