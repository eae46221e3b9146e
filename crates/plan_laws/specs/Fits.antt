-- What a plan considers and places: no more boxes than there may be lines, and no more placed than considered. So as many lines as
-- there may be have room for every plan, and as many as boxes are considered have room for each line placed.
use Rattle.std.specs.Prelude.{◌≡◌, refl, Bool, true, false, cond, List, ℕ, ◌≤◌, eqb, ltb, length, Float, Ok, Err}
use Rattle.std.proofs.Common.{arith, eqb-true, ltb-true, ltb-false}
use Rattle.std.proofs.Math.Nat.{min-le_right}
use Rattle.domain.specs.Bounds.{most_lines}
use Rattle.domain.specs.declared.Refusal.{Refusal}
use Rattle.domain.specs.declared.Refusal.TheVariants.{Room}
use Rattle.domain.specs.Refusal.{answer_with, no_refusal}
use Rattle.measures.specs.declared.Kind.{Kind}
use Rattle.sheet.specs.declared.Line.{Line}
use Rattle.sheet.specs.declared.Sheet.{Sheet}
use Rattle.sheet.specs.Sheets.{sheet_refusal}
use Rattle.sheet.specs.Accepted.{accepted}
use Rattle.file_read.specs.Form.{right_shape}
use Rattle.file_read.specs.Reading.{sheet_of, refusal_of}
use Rattle.plan_sheet.specs.declared.Told.{Told}
use Rattle.plan_sheet.specs.Plans.{Plan, over_bound, left_by, refused_plan, crowded_plan, planned_of}
use Rattle.plan_sheet.specs.Laid.{plan_in, told_of, Lays}
use Rattle.plan_sheet.specs.Room.{fitting, fits_in, fits_not}
use Rattle.point_run.specs.Runs.{plan_from, ep_packing_of}
use Rattle.point_laws.specs.Told.{considers, placed_few}
use Rattle.layer_fill.specs.Fill.{empty}
use Rattle.layer_plan.specs.Run.{run_few}
use Rattle.layer_plan.specs.Offers.{Offer, best_offer, item_offer, item_count}
use Rattle.layer_plan.specs.Fills as Fills
use Rattle.layer_plan.specs.Fills.{layer_fill_of, items_refusal, place_items_of, turns_few, items_right}
use Rattle.layer_plan.specs.Items.{items_in}

pub record Modest (p : Plan) : Type 0 where
  pub few : p.considered ≤ most_lines
  pub no_more : p.placed ≤ p.considered

-- ---- the plans of the placers are such

refused_modest : (r : ℕ) → Modest (refused_plan r)
unfolding refused_plan
refused_modest r = record { few = omega arith; no_more = omega arith }

planned_modest : (kinds : List Kind) (m : ℕ) (lines : List Line) (n considered : ℕ) (u : Float) → n ≤ considered → considered ≤ most_lines
    → Modest (planned_of kinds m lines n considered u)
unfolding planned_of
planned_modest kinds m lines n considered u a b = go (over_bound m n)
  where
    go : (t : Bool)
        → Modest (cond {A = Plan} t (refused_plan 2)
        (record {
          refused = 0;
          considered = considered;
          utilization = u;
          placed = n;
          unplaced = (left_by kinds m lines n).count;
          lines = lines;
          ids = (left_by kinds m lines n).ids;
        }))
    go true = refused_modest 2
    go false = record { few = b; no_more = a }

-- a plan or a refusal
either_modest : (r : ℕ) (p : Plan) → (r ≡ 0 → Modest p) → Modest (cond (eqb r 0) p (refused_plan r))
either_modest r p h = go (eqb r 0) refl
  where
    go : (t : Bool) → eqb r 0 ≡ t → Modest (cond t p (refused_plan r))
    go true e = h (eqb-true r 0 e)
    go false e = refused_modest r

pub points_modest : (f : List ℕ) (consider : ℕ) → Modest (plan_in ep_packing_of f consider)
unfolding plan_in ep_packing_of plan_from
points_modest f consider =
    let s = sheet_of f in
    either_modest (refusal_of f) _
    (λ _. either_modest (sheet_refusal s) _
    (λ z. planned_modest s.kinds s.many.kinds _ _ (considers s consider) _ (placed_few s consider z) (turns_few s (accepted s z) consider)))

-- by layers, so many offers
fill_modest : (s : Sheet) (offer : ℕ → Offer) (n : ℕ) → n ≤ most_lines → Modest (Fills.plan_by s.container s.kinds s.many.kinds offer n)
unfolding Fills.plan_from
fill_modest s offer n few =
    let c = run_few (empty s.container) s.kinds offer n in
    planned_modest s.kinds s.many.kinds _ _ n _ (omega arith) few

pub layers_modest : (f : List ℕ) (consider : ℕ) → Modest (plan_in layer_fill_of f consider)
unfolding plan_in layer_fill_of
layers_modest f consider =
    let s = sheet_of f in
    either_modest (refusal_of f) _
    (λ _. either_modest (sheet_refusal s) _ (λ z. fill_modest s (best_offer s.kinds) _ (turns_few s (accepted s z) consider)))

pub items_modest : (f records items : List ℕ) (consider : ℕ) → Modest (items_in f records items consider)
unfolding items_in place_items_of
items_modest f records items consider = go (right_shape f)
  where
    made : Modest (place_items_of (sheet_of f) records items consider)
    made =
        either_modest (items_refusal (sheet_of f) records items) _
        (λ z.
        let r = (items_right (sheet_of f) records items z).few in
        let l = min-le_right consider (item_count items) in
        fill_modest (sheet_of f) (item_offer records items) _ (omega arith))

    go : (t : Bool) → Modest (cond t (place_items_of (sheet_of f) records items consider) (refused_plan 1))
    go true = made
    go false = refused_modest 1

-- ---- where such a plan is laid

-- in as many lines as there may be, it fits
pub fits_long : {p : Plan} (lines : List Line) → Modest p → most_lines ≤ length lines → fitting lines p ≡ p
fits_long {p} lines m r = fits_in lines p (let a = m.few in omega arith)

-- in others, where it is told of
pub record Fits (lines : List Line) (p : Plan) : Type 0 where
  pub is_plan : fitting lines p ≡ p
  pub room : p.placed ≤ length lines

pub fits_small : (lines : List Line) (p : Plan) → Modest p → ((fitting lines p).refused ≡ 6 → ⊥) → Fits lines p
unfolding crowded_plan
fits_small lines p m n = go (ltb (length lines) p.considered) refl
  where
    go : (b : Bool) → ltb (length lines) p.considered ≡ b → Fits lines p
    go true e = absurd (n (rw (fits_not lines p (ltb-true (length lines) p.considered e)) refl))
    go false e =
        let h = ltb-false (length lines) p.considered e in
        record { is_plan = fits_in lines p h; room = let a = m.no_more in omega arith }

-- as it is where a call told of it
pub fits_told : (lines old new : List Line) (p : Plan) (t : Told) → Modest p → Lays (fitting lines p) (Ok t) old new → Fits lines p
fits_told lines old new p t m l =
    let fair = no_refusal _ (fitting lines p).considered (told_of (fitting lines p)) t l.told_is in
    fits_small lines p m (λ h. omega (arith, h, fair))

-- and where it is refused for another thing than room, that is the plan's own refusal
pub fits_refused_by : (lines old new : List Line) (p : Plan) (r : Refusal) → ((n : ℕ) → r ≡ Room n → ⊥) → Lays (fitting lines p) (Err r) old new
    → Lays p (Err r) old new
unfolding crowded_plan answer_with
fits_refused_by lines old new p r other l = go (ltb (length lines) p.considered) refl
  where
    go : (b : Bool) → ltb (length lines) p.considered ≡ b → Lays p (Err r) old new
    go true e =
        let h = rw (fits_not lines p (ltb-true (length lines) p.considered e)) at l.told_is in
        absurd (other p.considered (cc h))
    go false e = rw (fits_in lines p (ltb-false (length lines) p.considered e)) at l

pub long_room : {p : Plan} (lines : List Line) → Modest p → most_lines ≤ length lines → p.placed ≤ length lines
long_room lines m r = let a = m.few in let b = m.no_more in omega arith
