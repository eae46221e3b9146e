-- What every place call keeps, boxes placed in order keep; and that the counts stay within their bounds.
use Rattle.std.specs.Prelude.{◌≡◌, Bool, true, false, List, eqb, length}
use Prim.Native.Nat.{ℕ, zero, suc}
use Rattle.std.proofs.Common.{arith, eqb-true}
use Rattle.std.proofs.Math.ListN.{get_or}
use Rattle.lists.specs.Bools.{cond_cases}
use Rattle.measures.specs.declared.Kind.{Kind}
use Rattle.measures.specs.declared.Container.{Container}
use Rattle.measures.specs.Orders.{share_of, lengths_in}
use Rattle.sheet.specs.Sheets.{no_kind}
use Rattle.plan_boxes.specs.declared.Instance.{Instance}
use Rattle.plan_boxes.specs.Listing.{no_instance}
use Rattle.point_state.specs.declared.ExtremePointSet.{ExtremePointSet}
use Rattle.point_state.specs.Boxes.{total_mass}
use Rattle.point_state.specs.Fresh.{start_of}
use Rattle.point_state.specs.Counts.{over, Within, not_over}
use Rattle.point_grow.specs.Grow.{after_box, stock_few}
use Rattle.point_scan.specs.Choose.{best_of, scan_found}
use Rattle.point_place.specs.declared.Tried.{Tried}
use Rattle.point_place.specs.Place.{stood, refusal_of, label_of, placed_cases, tried_of, ready}
use Rattle.point_step.specs.Pick.{too_heavy}
use Rattle.point_stow.specs.Stow.{Stowed, Attempt, attempt_of, turn_of, stowed_by}

module _ (P : ExtremePointSet → Type 0) (kept : (s : ExtremePointSet) (kind : Kind) (instance o : ℕ) → P s → P (tried_of s kind instance o).next) where
  attempt_keeps : (s : ExtremePointSet) (kind : Kind) (instance o : ℕ) → P s → P (attempt_of s kind instance o).tried.next
  unfolding attempt_of
  attempt_keeps s kind instance zero p = p
  attempt_keeps s kind instance (suc o) p =
      cond_cases (λ (a : Attempt). P a.tried.next) (stood (attempt_of s kind instance o).tried.answer)
      (λ _. attempt_keeps s kind instance o p)
      (λ _. kept s kind instance o p)

  turn_keeps : (kind : Kind) (instance : ℕ) (f : Stowed) → P f.next → P (turn_of kind instance f).next
  unfolding turn_of
  turn_keeps kind instance f p =
      let a = attempt_of f.next kind instance (length (share_of kind.rule)) in
      cond_cases (λ (g : Stowed). P g.next) (too_heavy f.next.container.limit (total_mass f.next) kind)
      (λ _. p)
      (λ _.
      cond_cases (λ (g : Stowed). P g.next) (stood a.tried.answer)
      (λ _. attempt_keeps f.next kind instance (length (share_of kind.rule)) p)
      (λ _. p))

  pub stow_keeps : (s : ExtremePointSet) (kinds : List Kind) (items : List Instance) (n : ℕ) → P s → P (stowed_by s kinds items n).next
  unfolding stowed_by
  stow_keeps s kinds items zero p = p
  stow_keeps s kinds items (suc n) p =
      let item = get_or items n no_instance in
      turn_keeps (get_or kinds item.kind no_kind) item.instance (stowed_by s kinds items n) (stow_keeps s kinds items n p)

-- ---- the counts

abbrev Fits : ExtremePointSet → Type 0
Fits s = Within s.live s.held

tried_fits : (s : ExtremePointSet) (kind : Kind) (instance o : ℕ) → Fits s → Fits (tried_of s kind instance o).next
unfolding tried_of best_of after_box
tried_fits s kind instance o h =
    let size = lengths_in kind o in
    cond_cases (λ (t : Tried). Fits t.next) (eqb (refusal_of s.live s.held kind) 0)
    (λ e.
    placed_cases (λ (t : Tried). Fits t.next) s (label_of kind instance) size (best_of s size)
    (λ k f.
    let r = ready _ _ kind (eqb-true _ 0 e) in
    let m = stock_few s k size (scan_found _ s.points s.live k f) in
    record { room = omega arith; few = omega arith })
    (λ _. h))
    (λ _. h)

start_fits : (c : Container) (fault : Bool) → Fits (start_of c fault)
unfolding start_of
start_fits c true = record { room = omega arith; few = omega arith }
start_fits c false = record { room = omega arith; few = omega arith }

-- boxes placed in an empty container never bring its counts over the bounds
pub stow_within : (c : Container) (fault : Bool) (kinds : List Kind) (items : List Instance) (n : ℕ)
    → over (stowed_by (start_of c fault) kinds items n).next ≡ false
stow_within c fault kinds items n = not_over _ _ (stow_keeps Fits tried_fits (start_of c fault) kinds items n (start_fits c fault))
