-- The fill over n boxes is the beginning of the fill over more: its lines are the first lines of the other.
use Rattle.std.specs.Prelude.{◌≡◌, refl, Bool, true, false, List, ℕ, zero, suc, ◌<◌, ◌≤◌, eqb, get_or, Option, Some, None, min}
use Rattle.std.proofs.Common.{◌∙◌, ⊎_elim, le_refl, eq-or-lt_of_le, le_of_suc-le-suc, not-suc-le-zero, arith, eqb-true, get_or-set_other}
use Rattle.std.proofs.Math.Nat.{le-min, min-le_left, min-le_right}
use Rattle.measures.specs.declared.Kind.{Kind}
use Rattle.sheet.specs.declared.Sheet.{Sheet}
use Rattle.sheet.specs.Sheets.{no_kind, no_line, sheet_refusal}
use Rattle.layer_state.specs.declared.stand.Step.{Step}
use Rattle.layer_fill.specs.declared.LayerFill.{LayerFill}
use Rattle.layer_fill.specs.Fill.{empty, line_of, took}
use Rattle.plan_sheet.specs.Plans.{Plan, refused_plan}
use Rattle.layer_plan.specs.Run.{step_by, offered, run_from}
use Rattle.layer_plan.specs.Offers.{Offer, best_offer}
use Rattle.layer_instances.specs.Instances.{total}
use Rattle.layer_plan.specs.Fills.{layer_fill_of}
use Rattle.layer_laws.specs.Made.{fill_to, number, Made, fill_made}

-- the lines of f are the first lines of g
pub record Begins (f g : LayerFill) : Type 0 where
  pub few : f.count ≤ g.count
  pub same : (j : ℕ) → j < f.count → get_or g.lines j no_line ≡ get_or f.lines j no_line

begins_self : (f : LayerFill) → Begins f f
begins_self f = record { few = le_refl f.count; same = λ j l. refl }

begins_then : (f g h : LayerFill) → Begins f g → Begins g h → Begins f h
begins_then f g h a b =
    record { few = let x = a.few in let y = b.few in omega arith; same = λ j l. b.same j (let x = a.few in omega arith) ∙ a.same j l }

took_begins : (f : LayerFill) (s : Option Step) (id instance : ℕ) → Begins f (took f s id instance)
unfolding took
took_begins f None id instance = begins_self f
took_begins f (Some s) id instance =
    record { few = omega arith; same = λ j l. get_or-set_other f.lines f.count j (line_of s id instance) no_line (λ e. omega arith) }

offered_begins : (f : LayerFill) (kinds : List Kind) (o : Offer) → Begins f (offered f kinds o)
unfolding offered
offered_begins f kinds o =
    took_begins f (step_by f.stand (get_or kinds o.kind no_kind) o.way) (get_or kinds o.kind no_kind).id o.instance

-- the fill over n offers is the beginning of the fill over m of them
pub run_begins : (f : LayerFill) (kinds : List Kind) (offer : ℕ → Offer) (n m : ℕ) → n ≤ m → Begins (run_from f kinds offer n) (run_from f kinds offer m)
unfolding run_from
run_begins f kinds offer n zero h = let e : n ≡ 0 = omega arith in rw e (begins_self f)
run_begins f kinds offer n (suc m) h =
    ⊎_elim (λ e. rw e (begins_self (offered (run_from f kinds offer m) kinds (offer m))))
    (λ l.
    begins_then (run_from f kinds offer n) (run_from f kinds offer m) (offered (run_from f kinds offer m) kinds (offer m))
    (run_begins f kinds offer n m (le_of_suc-le-suc l))
    (offered_begins (run_from f kinds offer m) kinds (offer m)))
    (eq-or-lt_of_le h)

-- ---- and so for the plans

pub record PlanBegins (p q : Plan) : Type 0 where
  pub few : p.placed ≤ q.placed
  pub same : (j : ℕ) → j < p.placed → get_or q.lines j no_line ≡ get_or p.lines j no_line

plan_begins : (p q : Plan) (f g : LayerFill) (a b : ℕ) → Made p f a → Made q g b → Begins f g → PlanBegins p q
plan_begins p q f g a b m n h =
    record {
      few = rw (m.placed_are, n.placed_are) h.few;
      same = λ j l. rw (m.lines_are, n.lines_are) (h.same j (rw m.placed_are at l));
    }

min_mono : (a b t : ℕ) → a ≤ b → min a t ≤ min b t
min_mono a b t h = le-min (let l = min-le_left a t in omega arith) (min-le_right a t)

-- of two fills of an order, the one over fewer boxes begins the other. A refused order has no lines in either.
pub fill_begins : (order : Sheet) (a b : ℕ) → a ≤ b → PlanBegins (layer_fill_of order a) (layer_fill_of order b)
unfolding layer_fill_of refused_plan
fill_begins order a b h = go (eqb (sheet_refusal order) 0) refl
  where
    go : (t : Bool) → eqb (sheet_refusal order) 0 ≡ t → PlanBegins (layer_fill_of order a) (layer_fill_of order b)
    go true e =
        let r = eqb-true (sheet_refusal order) 0 e in
        plan_begins (layer_fill_of order a) (layer_fill_of order b) (fill_to order (number order a)) (fill_to order (number order b)) (number order a)
        (number order b)
        (fill_made order a r) (fill_made order b r)
        (run_begins (empty order.container) order.kinds (best_offer order.kinds) (number order a) (number order b)
        (min_mono a b (total order) h))
    go false e = rw e (record { few = le_refl 0; same = λ j l. absurd (not-suc-le-zero l) })
