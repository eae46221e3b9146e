-- The state of the second placer, the fill by layers, with its placements (packing_utils.rs, `LayerFill`), refusals included. The fill per thousand of a
-- load file is another thing: `fill_thousand`.
use Rattle.std.specs.Prelude.{◌≡◌, refl, Bool, true, false, List, ℕ, ◌+◌, ◌<◌, eqb, ltb, set, replicate, Option, Some, None, option_map, Result, Ok, Err, Float}
use Rattle.std.proofs.Common.{arith, ltb-false}
use Rattle.std.proofs.lemmas.Bool.{eqb-false}
use Rattle.domain.specs.Bounds.{most_boxes}
use Rattle.domain.specs.declared.Refusal.{Refusal}
use Rattle.domain.specs.declared.Refusal.TheVariants.{Count, Measure}
use Rattle.domain.specs.Refusals.{when, or_else}
use Rattle.domain.specs.Refusal.{answer_with, answer_of}
use Rattle.domain.specs.Laws.{or_else_first, or_else_second, when_none}
use Rattle.measures.specs.declared.Container.{Container}
use Rattle.measures.specs.declared.Kind.{Kind}
use Rattle.measures.specs.Faults.{kind_fault, container_fault}
use Rattle.sheet.specs.declared.Line.{Line}
pub use Rattle.sheet.specs.Sheets.{blank_line}
use Rattle.layer_state.specs.declared.stand.Step.{Step}
use Rattle.layer_fill.specs.declared.LayerFill.{LayerFill}
use Rattle.layer_fill.specs.declared.LayerPlacementResult.{LayerPlacementResult}
use Rattle.layer_state.specs.Stand.{new_of, place_of, fill_of}
use Rattle.layer_state.specs.Best.{place_best_of}

-- lines that hold no box
unfoldable pub no_lines : List Line
no_lines = replicate most_boxes blank_line

abbrev pub empty : Container → LayerFill
empty b = record { stand = new_of b; count = 0; lines = no_lines }

-- `new`: refused by 3 where the container is. RULES: Refusals.
abbrev pub opened : Container → Result LayerFill Refusal
opened b = answer_of (when (container_fault b) 3) (empty b)

-- the line of a box that was placed
abbrev pub line_of : Step → ℕ → ℕ → Line
line_of s id instance = record { id = id; instance = instance; orientation = s.orientation; bin = 0; at = s.at }

-- the fill with that line
abbrev pub pushed : LayerFill → Step → ℕ → ℕ → LayerFill
pushed f s id instance = record { stand = s.next; count = f.count + 1; lines = set f.lines f.count (line_of s id instance) }

-- the fill after a step: with its box where there is one, else as it was
unfoldable pub took : LayerFill → Option Step → ℕ → ℕ → LayerFill
took f None id instance = f
took f (Some s) id instance = pushed f s id instance

-- What a place call refuses, in this order: 2 for a fill that says it holds more than it can, 4 and 3 for the kind (a single kind repeats no other, so
-- there is no 5), 7 for a full fill. RULES: Refusals.
unfoldable pub place_refusal : ℕ → Kind → ℕ
place_refusal count k = or_else (when (ltb most_boxes count) 2) (or_else (kind_fault k false) (when (eqb count most_boxes) 7))

-- the refusal, or the fill with the step's box; none where there is no step
unfoldable pub answered : LayerFill → Kind → ℕ → Option Step → Result (Option LayerFill) Refusal
answered f k instance s = answer_of (place_refusal f.count k) (option_map (λ (r : Step). pushed f r k.id instance) s)

-- `place`: one orientation
abbrev pub placed : LayerFill → Kind → ℕ → ℕ → Result (Option LayerFill) Refusal
placed f k instance o = answered f k instance (place_of f.stand k o)

-- `place_best`
abbrev pub placed_best : LayerFill → Kind → ℕ → Result (Option LayerFill) Refusal
placed_best f k instance = answered f k instance (place_best_of f.stand k)

-- the fill after such a call: the one with the box, or as it was
abbrev pub after_call : LayerFill → Result (Option LayerFill) Refusal → LayerFill
after_call f (Ok (Some g)) = g
after_call f (Ok None) = f
after_call f (Err r) = f

-- whether it placed the box
abbrev pub has_placed : Result (Option LayerFill) Refusal → Bool
has_placed (Ok (Some g)) = true
has_placed (Ok None) = false
has_placed (Err r) = false

-- a call that is not refused takes the step
pub took_after : (f : LayerFill) (k : Kind) (instance : ℕ) (s : Option Step) → place_refusal f.count k ≡ 0
    → after_call f (answered f k instance s) ≡ took f s k.id instance
unfolding answered took answer_with
took_after f k instance None h = rw h refl
took_after f k instance (Some s) h = rw h refl

-- a fill that says it holds more than it can gets 2 from every call. RULES: Refusals.
abbrev pub over_full : LayerFill → Bool
over_full f = ltb most_boxes f.count

-- what a fill tells of itself
abbrev pub told_of : {A : Type 0} → LayerFill → A → Result A Refusal
told_of f v = answer_of (when (over_full f) 2) v

-- `placed`: the boxes placed so far
abbrev pub counted : LayerFill → Result ℕ Refusal
counted f = told_of f f.count

-- `utilization`
abbrev pub filled : LayerFill → Result Float Refusal
filled f = told_of f (fill_of f.stand)

-- `finish`
abbrev pub finished : LayerFill → Result LayerPlacementResult Refusal
finished f = told_of f (record { placed = f.count; utilization = fill_of f.stand; lines = f.lines })

-- ---- a container that is not refused is empty at first, and of one that is refused there is no fill
pub opened_empty : (b : Container) → container_fault b ≡ false → opened b ≡ Ok (empty b)
unfolding answer_with
opened_empty b h = rw h

pub opened_none : (b : Container) → container_fault b ≡ true → opened b ≡ Err Measure
unfolding answer_with
opened_none b h = rw h

-- into a fill that says it holds more than it can no box goes
pub over_closed : (f : LayerFill) (k : Kind) (instance : ℕ) (s : Option Step) → over_full f ≡ true → answered f k instance s ≡ Err Count
unfolding answered place_refusal or_else answer_with
over_closed f k instance s h = rw h

-- ---- a box that is not refused has room
pub room : (n : ℕ) (k : Kind) → place_refusal n k ≡ 0 → n < most_boxes
unfolding place_refusal
room n k h =
    let r = or_else_second (when (ltb most_boxes n) 2) _ h in
    let a = ltb-false most_boxes n (when_none (ltb most_boxes n) 1 (or_else_first (when (ltb most_boxes n) 2) _ h)) in
    let b = eqb-false n most_boxes (when_none (eqb n most_boxes) 6 (or_else_second (kind_fault k false) _ r)) in
    omega (arith, b)
