-- A plan that was laid in lent memory: what lines stand there, and that the unplaced list may be made from them.
use Rattle.std.specs.Prelude.{◌≡◌, refl, Bool, true, false, List, ℕ, ◌<◌, ◌≤◌, ltb, length, get_or, Result, Ok, Err}
use Rattle.std.proofs.Common.{ap, ◌∙◌, arith, ltb-true, ltb-false}
use Rattle.domain.specs.declared.Refusal.{Refusal}
use Rattle.domain.specs.Refusals.{when}
use Rattle.domain.specs.Refusal.{answer_with, answer_of, refused_as, no_refusal, no_number}
use Rattle.domain.specs.Laws.{when_none}
use Rattle.lists.specs.Table.{filled_at, filled_length}
use Rattle.measures.specs.declared.Kind.{Kind}
use Rattle.sheet.specs.declared.Line.{Line}
use Rattle.sheet.specs.declared.Sheet.{Sheet}
use Rattle.sheet.specs.Sheets.{no_line}
use Rattle.file_read.specs.Reading.{refusal_of}
use Rattle.plan_unplaced.specs.declared.Left.{Left}
use Rattle.plan_unplaced.specs.Left.{over_bound, left_of, left_long}
use Rattle.plan_unplaced.specs.Same.{same_lines}
use Rattle.plan_sheet.specs.Room.{fitting, fits_in, fits_not, fits_refused}
use Rattle.plan_sheet.specs.Plans.{Plan, refused_plan, crowded_plan, left_by}
use Rattle.plan_sheet.specs.declared.Told.{Told}
use Rattle.plan_sheet.specs.Refused.{lays_refused, has_number, refused_in}
use Rattle.plan_sheet.specs.Laid.{plan_in, told_of, placed_at, laid_in, Lays}

-- line i is the plan's
pub laid_at : (old : List Line) (p : Plan) (i : ℕ) (d : Line) → p.placed ≤ length old → i < p.placed → get_or (laid_in old p) i d ≡ placed_at p i
unfolding laid_in
laid_at old p i d room l = filled_at old (placed_at p) p.placed i d room l

-- and laying keeps the length
pub laid_length : (old : List Line) (p : Plan) → length (laid_in old p) ≡ length old
unfolding laid_in
laid_length old p = filled_length old (placed_at p) p.placed

pub left_laid : (kinds : List Kind) (m : ℕ) (p : Plan) (old : List Line) → p.placed ≤ length old
    → left_of kinds m (laid_in old p) p.placed ≡ answer_of (when (over_bound m p.placed) 2) (left_by kinds m p.lines p.placed)
left_laid kinds m p old room =
    left_long kinds m (laid_in old p) p.placed (let e = laid_length old p in omega (arith, e))
    ∙ ap (λ (l : Left). answer_of (when (over_bound m p.placed) 2) l)
    (same_lines (laid_in old p) p.lines p.placed (λ j l. laid_at old p j no_line room l) kinds m)

-- ---- a plan laid in lines that have room for it, or refused in others

module _ (old : List Line) (p : Plan) where
  -- a plan that is refused anyway
  pub lays_refused_in : {A : Type 0} (n : ℕ) (u : A) (r : Refusal) → p ≡ refused_plan n → Err r ≡ answer_of n u → Lays (fitting old p) (Err r) old old
  unfolding refused_plan
  lays_refused_in n u r e h = rw (e, fits_refused old n) (lays_refused (refused_plan n) r old refl (refused_as n 0 u _ r h))

  -- one that has room, however it was laid
  pub lays_fitting : (r : Result Told Refusal) (new : List Line) → p.considered ≤ length old → Lays p r old new → Lays (fitting old p) r old new
  lays_fitting r new room l = rw (fits_in old p room) l

  module _ (n : ℕ) (considered : n ≡ p.considered) where
    -- one for which there are too few lines
    pub lays_short : {A : Type 0} (u : A) (r : Refusal) → Err r ≡ answer_with (when (ltb (length old) n) 6) n u → Lays (fitting old p) (Err r) old old
    unfolding crowded_plan
    lays_short u r h = go (ltb (length old) n) refl
      where
        go : (b : Bool) → ltb (length old) n ≡ b → Lays (fitting old p) (Err r) old old
        go true e =
            rw (fits_not old p (rw considered at (ltb-true (length old) n e)))
            (lays_refused (crowded_plan p.considered) r old refl (refused_as 6 p.considered u _ r (rw (← considered) (rw e at h))))
        go false e = absurd (has_number 0 n u r (rw e at h) refl)

    -- one that is made, and there are as many
    pub lays_roomy : {A : Type 0} (u w : A) (r : Told) (new : List Line) → Ok w ≡ answer_with (when (ltb (length old) n) 6) n u → p.refused ≡ 0
        → r ≡ told_of p → new ≡ laid_in old p → Lays (fitting old p) (Ok r) old new
    lays_roomy u w r new h fair told lines =
        let few = ltb-false (length old) n (when_none (ltb (length old) n) 5 (no_refusal (when (ltb (length old) n) 6) n u w h)) in
        lays_fitting (Ok r) new (rw considered at few) (record { told_is = rw told (no_number p.refused p.considered (told_of p) fair); lines_are = lines })

-- the plan of the order in a file that is refused
pub lays_unread : {A : Type 0} (run : Sheet → ℕ → Plan) (f : List ℕ) (consider : ℕ) (old : List Line) (u : A) (r : Refusal) → Err r ≡ answer_of (refusal_of f) u
    → Lays (fitting old (plan_in run f consider)) (Err r) old old
lays_unread run f consider old u r e =
    lays_refused_in old (plan_in run f consider) (refusal_of f) u r (refused_in run f consider (has_number (refusal_of f) 0 u r e)) e
