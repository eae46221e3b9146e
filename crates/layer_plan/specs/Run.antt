-- A run: offers one after the other, each to the fill that the ones before it left.
use Rattle.std.specs.Prelude.{◌≡◌, refl, List, ℕ, zero, suc, ◌+◌, ◌<◌, ◌≤◌, get_or, Option, Some, None}
use Rattle.std.proofs.Common.{◌∙◌, ap, le_refl, arith}
use Rattle.measures.specs.declared.Container.{Container}
use Rattle.measures.specs.declared.Kind.{Kind}
use Rattle.sheet.specs.Sheets.{no_kind}
use Rattle.layer_state.specs.declared.stand.Stand.{Stand}
use Rattle.layer_state.specs.declared.stand.Step.{Step}
use Rattle.layer_fill.specs.declared.LayerFill.{LayerFill}
use Rattle.layer_state.specs.Stand.{place_of}
use Rattle.layer_state.specs.Best.{place_best_of}
use Rattle.layer_fill.specs.Fill.{empty, took}
use Rattle.layer_plan.specs.Offers.{Offer, Way, skip, turned, best}

-- what the fill makes of an offer
abbrev pub step_by : Stand → Kind → Way → Option Step
step_by s k skip = None
step_by s k (turned o) = place_of s k o
step_by s k best = place_best_of s k

-- a fill after one offer
unfoldable pub offered : LayerFill → List Kind → Offer → LayerFill
offered f kinds o =
    took f (step_by f.stand (get_or kinds o.kind no_kind) o.way) (get_or kinds o.kind no_kind).id o.instance

-- and after n
unfoldable pub run_from : LayerFill → List Kind → (ℕ → Offer) → ℕ → LayerFill
run_from f kinds offer zero = f
run_from f kinds offer (suc t) = offered (run_from f kinds offer t) kinds (offer t)

-- a run begins with an empty container
abbrev pub run_by : Container → List Kind → (ℕ → Offer) → ℕ → LayerFill
run_by b kinds offer n = run_from (empty b) kinds offer n

-- how many lines there are after a box
abbrev pub count_after : Option Step → ℕ → ℕ
count_after None n = n
count_after (Some s) n = n + 1

-- ---- laws

-- each offer adds at most one line
took_few : (f : LayerFill) (s : Option Step) (id instance : ℕ) → (took f s id instance).count ≤ f.count + 1
unfolding took
took_few f None id instance = omega arith
took_few f (Some s) id instance = le_refl (f.count + 1)

offered_few : (f : LayerFill) (kinds : List Kind) (o : Offer) → (offered f kinds o).count ≤ f.count + 1
unfolding offered
offered_few f kinds o =
    took_few f (step_by f.stand (get_or kinds o.kind no_kind) o.way) (get_or kinds o.kind no_kind).id o.instance

pub run_few : (f : LayerFill) (kinds : List Kind) (offer : ℕ → Offer) (n : ℕ) → (run_from f kinds offer n).count ≤ f.count + n
unfolding run_from
run_few f kinds offer zero = omega arith
run_few f kinds offer (suc n) =
    let h = run_few f kinds offer n in
    let k = offered_few (run_from f kinds offer n) kinds (offer n) in
    omega arith

-- a run goes by its offers alone
pub run_same : (f : LayerFill) (kinds : List Kind) (a b : ℕ → Offer) (n : ℕ) → ((t : ℕ) → t < n → a t ≡ b t) → run_from f kinds a n ≡ run_from f kinds b n
unfolding run_from
run_same f kinds a b zero h = refl
run_same f kinds a b (suc n) h =
    ap (λ (g : LayerFill). offered g kinds (a n)) (run_same f kinds a b n (λ t l. h t (omega arith)))
    ∙ ap (λ (o : Offer). offered (run_from f kinds b n) kinds o) (h n (omega arith))
