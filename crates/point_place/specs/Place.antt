-- The place call. RULES: First placer: point test · Refusals
use Rattle.std.specs.Prelude.{◌≡◌, refl, Bool, true, false, cond, List, ℕ, zero, suc, ◌+◌, ◌*◌, ◌≤◌, ◌<◌, eqb, Float, Option, Some, None, Result, Ok, Err}
use Rattle.std.proofs.Common.{arith, ne_eqb}
use Rattle.std.proofs.lemmas.Bool.{eqb-false}
use Rattle.floats.specs.Ops.{nowhere}
use Rattle.domain.specs.Bounds.{most_boxes}
use Rattle.domain.specs.declared.Refusal.{Refusal}
use Rattle.domain.specs.Refusals.{when, or_else}
use Rattle.domain.specs.Refusal.{number_of, refusal_by, answer_of, answer_with}
use Rattle.domain.specs.Laws.{or_else_first, or_else_second, when_none}
use Rattle.measures.specs.declared.Kind.{Kind}
use Rattle.measures.specs.Orders.{lengths_in}
use Rattle.measures.specs.Faults.{record_fault, measure_fault, kind_fault}
use Rattle.point_state.specs.declared.Label.{Label}
use Rattle.point_state.specs.declared.ExtremePointSet.{ExtremePointSet}
use Rattle.point_state.specs.Boxes.{mass_of}
use Rattle.point_state.specs.Stores.{point_at}
use Rattle.point_state.specs.Counts.{over_counts, within_counts}
use Rattle.point_grow.specs.Grow.{after_box}
use Rattle.point_scan.specs.Choose.{best_of}
use Rattle.point_place.specs.declared.Tried.{Tried}

-- ---- what each answer tells, in the numbers and values of docs/RULES.md

pub record Word : Type 0 where
  pub number : ℕ
  pub stands : Bool
  pub at : List Float

-- the refusal's number; no room, which is no refusal; the box stands at p
abbrev pub refused_by : ℕ → Word
refused_by n = record { number = n; stands = false; at = nowhere }

abbrev pub no_room : Word
no_room = record { number = 0; stands = false; at = nowhere }

abbrev pub stands_at : List Float → Word
stands_at p = record { number = 0; stands = true; at = p }

-- what a place call answers: its refusal, or the position of the box where it stands
abbrev pub Answer : Type 0
Answer = Result (Option (List Float)) Refusal

-- for each answer
abbrev pub word_of : Answer → Word
word_of (Ok (Some at)) = stands_at at
word_of (Ok None) = no_room
word_of (Err r) = refused_by (number_of r)

abbrev pub said : Tried → Word
said t = word_of t.answer

abbrev pub stood : Answer → Bool
stood (Ok (Some at)) = true
stood (Ok None) = false
stood (Err r) = false

-- ---- the place call

-- 2 for the state; the kind's own, 4 and then 3; 7 for a placer that holds as many boxes as it can
unfoldable pub refusal_of : ℕ → ℕ → Kind → ℕ
refusal_of live held kind = or_else (when (over_counts live held) 2) (or_else (kind_fault kind false) (when (eqb held most_boxes) 7))

abbrev pub label_of : Kind → ℕ → Label
label_of kind instance = record { id = kind.id; instance = instance; mass = mass_of kind }

-- by the choice of a point: the box stands there, or the state stays
unfoldable pub placed_by : ExtremePointSet → Label → List Float → Option ℕ → Tried
placed_by s label size (Some k) = record { answer = Ok (Some (point_at s k)); next = after_box s k label size }
placed_by s label size None = record { answer = Ok None; next = s }

-- a place call: for every state, kind, instance and orientation
unfoldable pub tried_of : ExtremePointSet → Kind → ℕ → ℕ → Tried
tried_of s kind instance orientation =
    let n = refusal_of s.live s.held kind in
    let size = lengths_in kind orientation in
    cond (eqb n 0) (placed_by s (label_of kind instance) size (best_of s size)) (record { answer = Err (refusal_by n 0); next = s })

-- ---- laws: what is known of a call that is not refused

pub record Ready (live held : ℕ) (kind : Kind) : Type 0 where
  pub few : live ≤ 1 + 2 * held
  pub room : held < most_boxes
  pub kind_right : kind_fault kind false ≡ 0

pub ready : (live held : ℕ) (kind : Kind) → refusal_of live held kind ≡ 0 → Ready live held kind
unfolding refusal_of
ready live held kind e =
    let rest = or_else_second (when (over_counts live held) 2) _ e in
    let w = within_counts live held (when_none (over_counts live held) 1 (or_else_first (when (over_counts live held) 2) _ e)) in
    let n = eqb-false held most_boxes (when_none (eqb held most_boxes) 6 (or_else_second (kind_fault kind false) _ rest)) in
    record {
      few = w.few;
      room = omega (arith, n);
      kind_right = or_else_first (kind_fault kind false) _ rest;
    }

-- what holds where the box stands at the point chosen, and where it doesn't stand, holds of what is answered by the choice
pub placed_cases : (P : Tried → Type 0) (s : ExtremePointSet) (label : Label) (size : List Float) (c : Option ℕ)
    → ((k : ℕ) → c ≡ Some k → P (record { answer = Ok (Some (point_at s k)); next = after_box s k label size }))
    → (c ≡ None → P (record { answer = Ok None; next = s })) → P (placed_by s label size c)
unfolding placed_by
placed_cases P s label size (Some k) stands stays = stands k refl
placed_cases P s label size None stands stays = stays refl

-- the refusal by the four tests
abbrev first_of : Bool → Bool → Bool → Bool → ℕ
first_of a b d f = or_else (when a 2) (or_else (or_else (when b 4) (or_else (when d 3) (when false 5))) (when f 7))

-- the number of the refusal that is answered
pub numbered : (live held : ℕ) (kind : Kind) → eqb (refusal_of live held kind) 0 ≡ false
    → number_of (refusal_by (refusal_of live held kind) 0) ≡ refusal_of live held kind
unfolding refusal_of kind_fault or_else
numbered live held kind = go (over_counts live held) (record_fault kind) (measure_fault kind) (eqb held most_boxes)
  where
    go : (a b d f : Bool) → eqb (first_of a b d f) 0 ≡ false → number_of (refusal_by (first_of a b d f) 0) ≡ first_of a b d f
    go true b d f e = refl
    go false true d f e = refl
    go false false true f e = refl
    go false false false true e = refl
    go false false false false e = absurd cc

-- a call that is refused
pub refused_call : (s : ExtremePointSet) (kind : Kind) (instance orientation : ℕ) (r : Refusal) → Err r ≡ answer_of (refusal_of s.live s.held kind) (tt {0})
    → record { answer = Err r; next = s } ≡ tried_of s kind instance orientation
unfolding tried_of answer_with
refused_call s kind instance orientation r = go (refusal_of s.live s.held kind)
  where
    placed : Tried
    placed = placed_by s (label_of kind instance) (lengths_in kind orientation) (best_of s (lengths_in kind orientation))

    go : (n : ℕ) → Err r ≡ answer_of n (tt {0})
        → record { answer = Err r; next = s } ≡ cond (eqb n 0) placed (record { answer = Err (refusal_by n 0); next = s })
    go zero e = absurd cc
    go (suc n) e =
        let q : r ≡ refusal_by (suc n) 0 = cc in
        let z = ne_eqb (suc n) 0 (λ m. omega arith) in
        rw (q, z)
