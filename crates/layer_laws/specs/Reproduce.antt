-- The instances of an order, placed in its own order and each in the orientation that a fill of the order gave it, make that fill again.
-- The Rust's comment promises this of `seed_orientations`. It holds for every accepted order and every number of boxes to consider, if
-- the same number is considered again.
use Rattle.std.specs.Prelude.{◌≡◌, Bool, ◌&&◌, List, length, get_or, set, max, Option, Some, None}
use Rattle.std.proofs.Math.Path.{refl, ap}
use Rattle.std.proofs.Common.{sym, ◌∙◌, ⊎_elim, le_refl, eq-or-lt_of_le, le_of_suc-le-suc, not-suc-le-zero, add-one, arith, get_or-set_other}
use Rattle.std.proofs.Math.Bool.{true, false, cond}
use Prim.Native.Nat.{ℕ, zero, suc, ◌+◌, ◌%◌, ◌<◌, ◌≤◌}
use borrow.Author.Tests.{eq-eqb, eqb-true, eqb-false}
use Rattle.std.proofs.Math.Dec.{eqb}
use Rattle.std.proofs.Math.Seq.{get_or-set_same}
use Rattle.domain.specs.Bounds.{most_boxes}
use Rattle.lists.specs.Below.{sum_below}
use Rattle.lists.specs.Below.{any_none}
use Rattle.measures.specs.declared.Kind.{Kind}
use Rattle.measures.specs.Orders.{share_of}
use Rattle.sheet.specs.declared.Line.{Line}
use Rattle.sheet.specs.declared.Sheet.{Sheet}
use Rattle.sheet.specs.Sheets.{no_kind, no_line, same_id, quantity_of}
use Rattle.sheet.specs.Accepted.{Accepted}
use Rattle.layer_state.specs.declared.stand.Step.{Step}
use Rattle.layer_fill.specs.declared.LayerFill.{LayerFill}
use Rattle.layer_fill.specs.Fill.{empty, line_of, took}
use Rattle.layer_state.specs.Stand.{place_of}
use Rattle.layer_state.specs.Best.{place_best_of}
use Rattle.layer_state.specs.Again.{seed_for, some_turn, best_again}
use Rattle.plan_boxes.specs.Turns.{turn_of, Right, turn_right, by_order}
use Rattle.layer_plan.specs.Run.{offered, run_from, run_few}
use Rattle.layer_plan.specs.Offers.{Offer, turned, best_offer}
use Rattle.layer_plan.specs.Shown.{run_long}
use Rattle.plan_boxes.specs.Orders.{some_boxes}
use Rattle.layer_seeds.specs.Seeds.{seed_of}
use Rattle.layer_laws.specs.Made.{fill_to}

-- ---- the box of a turn
abbrev pub kind_of : List Kind → ℕ → Kind
kind_of kinds t = get_or kinds (turn_of kinds t).kind no_kind

abbrev pub box_id : List Kind → ℕ → ℕ
box_id kinds t = (kind_of kinds t).id

abbrev pub box_instance : List Kind → ℕ → ℕ
box_instance kinds t = (turn_of kinds t).instance

-- two turns have different boxes
module _ (order : Sheet) (a : Accepted order) where
  earlier_differs : (k j : ℕ) → k < order.many.kinds → j < k → (get_or order.kinds j no_kind).id ≡ (get_or order.kinds k no_kind).id → ⊥
  unfolding same_id
  earlier_differs k j h l =
      eqb-false (get_or order.kinds j no_kind).id (get_or order.kinds k no_kind).id (any_none (same_id order.kinds k) k j (a.kind_sound k h).id_new l)

  same_kind_of : (k j : ℕ) → k < order.many.kinds → j < order.many.kinds → (get_or order.kinds j no_kind).id ≡ (get_or order.kinds k no_kind).id → j ≡ k
  same_kind_of k j h i e =
      by_order j k (λ l. absurd (earlier_differs k j h l e))
      (λ l. ⊎_elim (λ d. sym d) (λ m. absurd (earlier_differs j k i m (sym e))) (eq-or-lt_of_le l))

  pub same_turn : (t u : ℕ) → t < sum_below (quantity_of order.kinds) order.many.kinds → u < sum_below (quantity_of order.kinds) order.many.kinds
      → box_id order.kinds t ≡ box_id order.kinds u → box_instance order.kinds t ≡ box_instance order.kinds u → t ≡ u
  same_turn t u ht hu e i =
      let r : Right order.kinds order.many.kinds t (turn_of order.kinds t) =
      turn_right order.kinds order.many.kinds (some_boxes order a) t ht in
      let s : Right order.kinds order.many.kinds u (turn_of order.kinds u) =
      turn_right order.kinds order.many.kinds (some_boxes order a) u hu in
      let k : (turn_of order.kinds t).kind ≡ (turn_of order.kinds u).kind =
      same_kind_of (turn_of order.kinds u).kind (turn_of order.kinds t).kind s.kind_is r.kind_is e in
      let p = r.place_is in
      let q = s.place_is in
      let g : sum_below (quantity_of order.kinds) (turn_of order.kinds t).kind ≡ sum_below (quantity_of order.kinds) (turn_of order.kinds u).kind =
      ap (sum_below (quantity_of order.kinds)) k in
      omega arith

-- ---- what one step more does to the orientation that the lines say
seed_before : (lines : List Line) (c n : ℕ) (l : Line) (id i : ℕ) → n ≤ c → seed_of (set lines c l) n id i ≡ seed_of lines n id i
unfolding seed_of
seed_before lines c zero l id i h = refl
seed_before lines c (suc n) l id i h =
    rw (get_or-set_other lines c n l no_line (λ e. omega arith), seed_before lines c n l id i (omega arith))

-- what a step says of a box, where the lines before it say old: of its own box its orientation
abbrev pub says : Bool → Option Step → ℕ → ℕ
says own None old = old
says own (Some s) old = cond own s.orientation old

says_other : (s : Option Step) (old : ℕ) → says false s old ≡ old
says_other None old = refl
says_other (Some s) old = refl

says_own : (s : Option Step) → says true s 0 ≡ seed_for s
says_own None = refl
says_own (Some s) = refl

module _ (f : LayerFill) (id instance id' instance' : ℕ) (room : f.count < length f.lines) where
  pushed_seed : (s : Step) → seed_of (set f.lines f.count (line_of s id instance)) (f.count + 1) id' instance'
      ≡ cond (eqb id id' && eqb instance instance') s.orientation (seed_of f.lines f.count id' instance')
  unfolding seed_of
  pushed_seed s =
      rw (add-one f.count, get_or-set_same f.lines f.count (line_of s id instance) no_line room)
      (rw (seed_before f.lines f.count f.count (line_of s id instance) id' instance' (le_refl f.count)))

  pub took_seed : (s : Option Step) → seed_of (took f s id instance).lines (took f s id instance).count id' instance'
      ≡ says (eqb id id' && eqb instance instance') s (seed_of f.lines f.count id' instance')
  unfolding took
  took_seed None = refl
  took_seed (Some s) = pushed_seed s

-- whether two turns have one box
abbrev pub one_box : Sheet → ℕ → ℕ → Bool
one_box order n t = eqb (box_id order.kinds n) (box_id order.kinds t) && eqb (box_instance order.kinds n) (box_instance order.kinds t)

-- ---- the fill over n boxes, box by box
abbrev pub boxes_of : Sheet → ℕ
boxes_of order = sum_below (quantity_of order.kinds) order.many.kinds

-- what becomes of box t
abbrev pub step_at : Sheet → ℕ → Option Step
step_at order t = place_best_of (fill_to order t).stand (kind_of order.kinds t)

-- the orientation that the fill over n boxes says of box t
abbrev pub seed_in : Sheet → ℕ → ℕ → ℕ
seed_in order n t = seed_of (fill_to order n).lines (fill_to order n).count (box_id order.kinds t) (box_instance order.kinds t)

fill_next : (order : Sheet) (n : ℕ) → fill_to order (suc n) ≡ took (fill_to order n) (step_at order n) (box_id order.kinds n) (box_instance order.kinds n)
unfolding run_from offered best_offer
fill_next order n = refl

fill_long : (order : Sheet) (n : ℕ) → length (fill_to order n).lines ≡ most_boxes
fill_long order n = run_long order.container order.kinds (best_offer order.kinds) n

module _ (order : Sheet) (a : Accepted order) where
  seed_next : (n t : ℕ) → n < boxes_of order → seed_in order (suc n) t ≡ says (one_box order n t) (step_at order n) (seed_in order n t)
  seed_next n t h =
      let c = run_few (empty order.container) order.kinds (best_offer order.kinds) n in
      let l = fill_long order n in
      let m = a.boxes_few in
      ap (λ (f : LayerFill). seed_of f.lines f.count (box_id order.kinds t) (box_instance order.kinds t)) (fill_next order n)
      ∙ took_seed (fill_to order n) (box_id order.kinds n) (box_instance order.kinds n) (box_id order.kinds t) (box_instance order.kinds t)
      (omega arith) (step_at order n)

  -- another turn's box is not this one
  differs : (n t : ℕ) → n < boxes_of order → t < boxes_of order → (n ≡ t → ⊥) → one_box order n t ≡ false
  differs n t h i d = go (eqb (box_id order.kinds n) (box_id order.kinds t)) (eqb (box_instance order.kinds n) (box_instance order.kinds t)) refl refl
    where
      go : (p q : Bool) → eqb (box_id order.kinds n) (box_id order.kinds t) ≡ p
          → eqb (box_instance order.kinds n) (box_instance order.kinds t) ≡ q → (p && q) ≡ false
      go true true e f =
          absurd
          (d
          (same_turn order a n t h i (eqb-true (box_id order.kinds n) (box_id order.kinds t) e)
          (eqb-true (box_instance order.kinds n) (box_instance order.kinds t) f)))
      go true false e f = refl
      go false q e f = refl

  seed_other : (n t : ℕ) → n < boxes_of order → t < boxes_of order → (n ≡ t → ⊥) → seed_in order (suc n) t ≡ seed_in order n t
  seed_other n t h i d = seed_next n t h ∙ rw (differs n t h i d) (says_other (step_at order n) (seed_in order n t))

  -- before its turn nothing is said of a box
  seed_later : (n t : ℕ) → n ≤ t → t < boxes_of order → seed_in order n t ≡ 0
  unfolding run_from seed_of
  seed_later zero t l i = refl
  seed_later (suc n) t l i = seed_other n t (omega arith) i (λ e. omega arith) ∙ seed_later n t (omega arith) i

  seed_own : (t : ℕ) → t < boxes_of order → seed_in order (suc t) t ≡ seed_for (step_at order t)
  seed_own t i =
      seed_next t t i
      ∙ rw (
        eq-eqb (box_id order.kinds t) (box_id order.kinds t) refl,
        eq-eqb (box_instance order.kinds t) (box_instance order.kinds t) refl,
        seed_later t t (le_refl t) i,
      ) (says_own (step_at order t))

  -- after it, what became of it
  pub seed_kept : (n t : ℕ) → t < n → n ≤ boxes_of order → seed_in order n t ≡ seed_for (step_at order t)
  seed_kept zero t l i = absurd (not-suc-le-zero l)
  seed_kept (suc n) t l i =
      ⊎_elim (λ e. rw e (seed_own n (omega arith)))
      (λ m. seed_other n t (omega arith) (omega arith) (λ e. omega arith) ∙ seed_kept n t m (omega arith))
      (eq-or-lt_of_le (le_of_suc-le-suc l))

-- ---- box t in the orientation that the fill over n boxes says of it, modulo the count of its kind
unfoldable pub seeded_offer : Sheet → ℕ → ℕ → Offer
seeded_offer order n t =
    record {
      kind = (turn_of order.kinds t).kind;
      instance = box_instance order.kinds t;
      way = turned (seed_in order n t % max (length (share_of (kind_of order.kinds t).rule)) 1);
    }

one_least : (n : ℕ) → 0 < n → max n 1 ≡ n
one_least n h = omega arith

module _ (order : Sheet) (a : Accepted order) (n : ℕ) (whole : n ≤ boxes_of order) where
  step_again : (t : ℕ) → t < n
      → place_of (fill_to order t).stand (kind_of order.kinds t) (seed_in order n t % max (length (share_of (kind_of order.kinds t).rule)) 1)
      ≡ step_at order t
  step_again t l =
      rw (seed_kept order a n t l whole, one_least (length (share_of (kind_of order.kinds t).rule)) (some_turn (kind_of order.kinds t).rule))
      (best_again (fill_to order t).stand (kind_of order.kinds t))

  offer_again : (t : ℕ) → t < n
      → offered (fill_to order t) order.kinds (seeded_offer order n t) ≡ offered (fill_to order t) order.kinds (best_offer order.kinds t)
  unfolding offered seeded_offer best_offer
  offer_again t l = ap (λ (r : Option Step). took (fill_to order t) r (box_id order.kinds t) (box_instance order.kinds t)) (step_again t l)

  -- the same fill, box by box
  pub run_again : (k : ℕ) → k ≤ n → run_from (empty order.container) order.kinds (seeded_offer order n) k ≡ fill_to order k
  unfolding run_from
  run_again zero h = refl
  run_again (suc k) h =
      ap (λ (f : LayerFill). offered f order.kinds (seeded_offer order n k)) (run_again k (omega arith)) ∙ offer_again k h
