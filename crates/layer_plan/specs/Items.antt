-- RULES: Second placer: items. Items of the order in a load file: the plan, and what the step of one item comes to.
use Rattle.std.specs.Prelude.{◌≡◌, Bool, true, false, cond, ◌||◌, List, ltb, length, get_or, Option, None, Err, min}
use Rattle.std.proofs.Math.Path.{refl}
use Rattle.std.proofs.Common.{sym, ◌∙◌, ap, arith}
use Rattle.std.proofs.Math.Nat.{min-le_right}
use Prim.Native.Nat.{ℕ, zero, suc, ◌*◌, ◌<◌, ◌≤◌}
use borrow.Author.Tests.{ne_eqb, ltb-false}
use Rattle.domain.specs.Bounds.{most_boxes, most_items, most_instances}
use Rattle.domain.specs.Refusals.{or_else}
use Rattle.domain.specs.Refusal.{refusal_by, answer_with, answer_of}
use Rattle.lists.specs.Bools.{or_left}
use Rattle.lists.specs.Below.{any_below, any_none}
use Rattle.measures.specs.declared.Kind.{Kind}
use Rattle.sheet.specs.declared.Sheet.{Sheet}
use Rattle.sheet.specs.Sheets.{no_kind, sheet_refusal}
use Rattle.sheet.specs.Accepted.{accepted}
use Rattle.file_read.specs.Form.{right_shape, counts_of}
use Rattle.file_read.specs.Reading.{sheet_of, refusal_of}
use Rattle.file_read.specs.Refusal.{shape_refused, sheet_decides, sheet_sound}
use Rattle.file_read.specs.Records.{Readable}
use Rattle.plan_sheet.specs.Plans.{Plan, refused_plan}
use Rattle.layer_state.specs.declared.stand.Stand.{Stand}
use Rattle.layer_state.specs.declared.stand.Step.{Step}
use Rattle.layer_state.specs.Stand.{place_of}
use Rattle.layer_fill.specs.declared.LayerFill.{LayerFill}
use Rattle.layer_fill.specs.Fill.{empty, took}
use Rattle.layer_instances.specs.Records.{records_in, is_stranger, stranger_not}
use Rattle.layer_instances.specs.Instances.{over_number}
use Rattle.layer_plan.specs.Run.{offered, run_by, run_few}
use Rattle.layer_plan.specs.Offers.{Offer, turned, no_offer, item_offer, item_count}
use Rattle.layer_plan.specs.Fills.{items_refusal, place_items_of}
use Rattle.layer_plan.specs.Laid.{Made, plan_made}

-- the plan of items of the order in a load file: 1 for its shape, or the plan of the order that its bytes mean
unfoldable pub items_in : List ℕ → List ℕ → List ℕ → ℕ → Plan
items_in f records items consider = cond (right_shape f) (place_items_of (sheet_of f) records items consider) (refused_plan 1)

-- the fill over its first n items
abbrev pub fill_over : Sheet → List ℕ → List ℕ → ℕ → LayerFill
fill_over s records items n = run_by s.container s.kinds (item_offer records items) n

-- ---- one item

-- what it comes to at a stand: the fill after it is the fill after the offer
pub record Tries (s : Stand) (kinds : List Kind) (o : Offer) (step : Option Step) (id instance : ℕ) : Type 0 where
  pub took_is : (f : LayerFill) → f.stand ≡ s → took f step id instance ≡ offered f kinds o

pub tries_turned : (s : Stand) (kinds : List Kind) (k : Kind) (i instance turn : ℕ) (o : Offer)
    → o ≡ record { kind = i; instance = instance; way = turned turn } → k ≡ get_or kinds i no_kind → Tries s kinds o (place_of s k turn) k.id instance
unfolding offered
tries_turned s kinds k i instance turn o e d =
    record { took_is = λ f q. rw (e, d, q) }

pub tries_skipped : (s : Stand) (kinds : List Kind) (o : Offer) → o ≡ no_offer → Tries s kinds o None 0 0
unfolding offered took
tries_skipped s kinds o e = record { took_is = λ f q. rw e }

-- ---- what the loop over n items relies on
pub record Fit (f records items : List ℕ) (n : ℕ) : Type 0 where
  pub can_read : Readable f
  pub few : n ≤ most_boxes
  pub whole : n * 2 ≤ length items
  pub of_kind : (p : ℕ) → p < records_in records → get_or records (p * 3) 0 < (counts_of f).kinds

pub fit : (f records items : List ℕ) (consider m : ℕ) → Readable f → item_count items ≤ most_items → m ≡ (counts_of f).kinds
    → any_below (is_stranger records m) (records_in records) ≡ false → Fit f records items (min consider (item_count items))
fit f records items consider m r few e known =
    let l = min-le_right consider (item_count items) in
    record {
      can_read = r;
      few = omega arith;
      whole = omega arith;
      of_kind = λ p h. rw (← e) (stranger_not records m p (any_none (is_stranger records m) (records_in records) p known h));
    }

-- ---- the plan in each case

planned_right : (f records items : List ℕ) (consider n : ℕ) → right_shape f ≡ true → items_refusal (sheet_of f) records items ≡ n → (n ≡ 0 → ⊥)
    → items_in f records items consider ≡ refused_plan n
unfolding items_in place_items_of
planned_right f records items consider n shape e some = rw (shape, e, ne_eqb n 0 some)

planned_wrong : (f records items : List ℕ) (consider : ℕ) → right_shape f ≡ false → items_in f records items consider ≡ refused_plan 1
unfolding items_in
planned_wrong f records items consider shape = rw shape

-- too many items or records
abbrev pub over : List ℕ → List ℕ → Bool
over records items = ltb most_items (item_count items) || ltb most_instances (records_in records)

pub items_over : (f records items : List ℕ) (consider : ℕ) → over records items ≡ true → items_in f records items consider ≡ refused_plan (over_number f)
unfolding over_number items_refusal or_else
items_over f records items consider h = go (right_shape f) refl
  where
    go : (b : Bool) → right_shape f ≡ b → items_in f records items consider ≡ refused_plan (cond b 2 1)
    go true e = planned_right f records items consider 2 e (rw h) (λ z. omega arith)
    go false e = planned_wrong f records items consider e

-- which is told so
pub over_told : {A : Type 0} (f : List ℕ) (u : A) → Err (refusal_by (over_number f) 0) ≡ answer_of (over_number f) u
unfolding over_number answer_with
over_told f u = go (right_shape f)
  where
    go : (b : Bool) → Err (refusal_by (cond b 2 1) 0) ≡ answer_of (cond b 2 1) u
    go true = refl
    go false = refl

module _ (f records items : List ℕ) (consider : ℕ) (few : over records items ≡ false) where
  pub items_refused : (refusal_of f ≡ 0 → ⊥) → items_in f records items consider ≡ refused_plan (refusal_of f)
  unfolding items_refusal or_else
  items_refused some = go (right_shape f) refl
    where
      first : (n : ℕ) (y : ℕ) → (n ≡ 0 → ⊥) → or_else n y ≡ n
      first zero y z = absurd (z refl)
      first (suc n) y z = refl

      go : (b : Bool) → right_shape f ≡ b → items_in f records items consider ≡ refused_plan (refusal_of f)
      go true s =
          let d : sheet_refusal (sheet_of f) ≡ refusal_of f = sym (sheet_decides f s) in
          planned_right f records items consider (refusal_of f) s (rw (few, d) (first (refusal_of f) _ some)) some
      go false s = planned_wrong f records items consider s ∙ ap refused_plan (sym (shape_refused f s))

  module _ (z : refusal_of f ≡ 0) (shape : right_shape f ≡ true) where
    pub items_strange : any_below (is_stranger records (sheet_of f).many.kinds) (records_in records) ≡ true → items_in f records items consider ≡ refused_plan 9
    unfolding items_refusal or_else
    items_strange s = planned_right f records items consider 9 shape (rw (few, sheet_sound f z, s)) (λ e. omega arith)

    pub items_made : any_below (is_stranger records (sheet_of f).many.kinds) (records_in records) ≡ false
        → Made (items_in f records items consider)
        (fill_over (sheet_of f) records items (min consider (item_count items)))
        (min consider (item_count items))
    unfolding items_in place_items_of items_refusal or_else
    items_made s =
        let o = sheet_of f in
        let n = min consider (item_count items) in
        let a = accepted o (sheet_sound f z) in
        let l = min-le_right consider (item_count items) in
        let m = ltb-false most_items (item_count items) (or_left (ltb most_items (item_count items)) _ few) in
        let c = run_few (empty o.container) o.kinds (item_offer records items) n in
        rw (shape, few, sheet_sound f z, s)
        (plan_made o.kinds o.many.kinds (fill_over o records items n) n a.few_of.kinds (omega arith))
