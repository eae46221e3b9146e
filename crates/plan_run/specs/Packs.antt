-- RULES: Lent memory. What a run into lent words ends with, and the plan that it hands out of the lines laid.
use Rattle.std.specs.Prelude.{◌≡◌, refl, Bool, true, false, cond, ◌||◌, List, ℕ, ◌≤◌, ltb, length, replicate, Result, Ok, Err}
use Rattle.domain.specs.Bounds.{most_lines}
use Rattle.domain.specs.declared.Refusal.{Refusal}
use Rattle.domain.specs.Refusals.{when}
use Rattle.domain.specs.Refusal.{answer_with, answer_of, no_refusal, accepted_as}
use Rattle.domain.specs.Laws.{when_none}
use Rattle.lists.specs.Bools.{or_left}
use Rattle.sheet.specs.declared.Line.{Line}
use Rattle.sheet.specs.Sheets.{blank_line}
use Rattle.file_read.specs.Reading.{refusal_of}
use Rattle.file_read.specs.Records.{counts_in}
use Rattle.plan_unplaced.specs.declared.Left.{Left}
use Rattle.plan_unplaced.specs.Left.{over_bound, left_of, none_over}
use Rattle.plan_unplaced.specs.InFile.{kinds_in}
use Rattle.plan_sheet.specs.Plans.{Plan, refused_plan}
use Rattle.plan_sheet.specs.declared.Told.{Told}
use Rattle.plan_sheet.specs.declared.Packed.{Packed}
use Rattle.plan_sheet.specs.Lent.{plan_by, Handed}
use Rattle.plan_sheet.specs.Hand.{handed_of, slots_of, handed_refused, slots_refused}
use Rattle.plan_laws.specs.Laid.{laid_left, kinds_few, left_refused}

-- a plan handed out: the answer, and the lent words afterwards
pub record Packs (p : Plan) (o : List ℕ) (r : Result Packed Refusal) (after : List ℕ) : Type 0 where
  pub answer_is : r ≡ handed_of p (length o)
  pub words_are : after ≡ slots_of p o

-- the plan of the order in a load file whose lines are these: its unplaced list is what they leave, refused by 2 for a count over its bound
unfoldable pub laid_plan : List ℕ → Told → List Line → Plan
laid_plan f t lines = cond (over_bound (counts_in f).kinds t.placed) (refused_plan 2) (plan_by t (laid_left f t lines) lines)

-- a refusal: no word changes
pub record Refuses (e : Refusal) (o : List ℕ) (r : Result Packed Refusal) (after : List ℕ) : Type 0 where
  pub answer_is : r ≡ Err e
  pub words_are : after ≡ o

-- of lines that are told of that plan is handed out, and where they were refused the refusal
abbrev pub Gives : List ℕ → Result Told Refusal → List Line → List ℕ → Result Packed Refusal → List ℕ → Type 0
Gives f (Ok t) lines o r after = Packs (laid_plan f t lines) o r after
Gives f (Err e) lines o r after = Refuses e o r after

-- what a run hands out of lines that were laid in as many blank ones as there may be: `lays` says of those before what is told, and those after
pub record HandsOut (lays : List Line → Result Told Refusal → List Line → Type 0) (f : List ℕ) (o : List ℕ) (r : Result Packed Refusal) (after : List ℕ)
    : Type 0 where
  pub told : Result Told Refusal
  pub lines : List Line
  pub laid : lays (replicate most_lines blank_line) told lines
  pub given : Gives f told lines o r after

-- ---- laws

-- a plan that is refused by its own number is handed out so, and no word changes
pub packs_refused : {A : Type 0} (p : Plan) (o : List ℕ) (u : A) (r : Refusal) → Err r ≡ answer_with p.refused p.considered u → Packs p o (Err r) o
packs_refused p o u r e = record { answer_is = handed_refused p (length o) u r e; words_are = slots_refused p o u r e }

-- 2 says nothing of room
by_two : {A : Type 0} (refused considered : ℕ) (b : Bool) (u : A) (r : Refusal) → b ≡ true → refused ≡ when b 2 → Err r ≡ answer_of (when b 2) u
    → Err r ≡ answer_with refused considered u
unfolding answer_with
by_two refused considered true u r z e h = rw e h
by_two refused considered false u r z e h = absurd (cc)

module _ (f : List ℕ) (t : Told) (lines : List Line) where
  abbrev over : Bool
  over = over_bound (counts_in f).kinds t.placed

  abbrev short : Bool
  short = ltb (length lines) t.placed

  laid_number : (b : Bool) → over ≡ b → (laid_plan f t lines).refused ≡ when (over || short) 2
  unfolding laid_plan plan_by refused_plan
  laid_number true e = rw e
  laid_number false e = rw e

  -- nothing is over: the plan is that of the lines
  pub laid_within : over ≡ false → laid_plan f t lines ≡ plan_by t (laid_left f t lines) lines
  unfolding laid_plan
  laid_within e = rw e

  pub laid_made : refusal_of f ≡ 0 → t.placed ≤ most_lines → laid_plan f t lines ≡ plan_by t (laid_left f t lines) lines
  laid_made z few = laid_within (none_over (counts_in f).kinds t.placed (kinds_few f z) few)

  -- the unplaced list is refused, or made from the lines and the order's kinds
  pub packs_over : (o : List ℕ) (r : Refusal) → Err r ≡ left_of (kinds_in f (counts_in f).kinds) (counts_in f).kinds lines t.placed
      → Packs (laid_plan f t lines) o (Err r) o
  unfolding left_of
  packs_over o r e =
      packs_refused (laid_plan f t lines) o _ r
      (by_two (laid_plan f t lines).refused (laid_plan f t lines).considered (over || short) _ r (left_refused f t lines r (unfold left_of in e))
      (laid_number over refl) e)

  pub packs_laid : (l : Left) (o : List ℕ) (r : Result Packed Refusal) (after : List ℕ)
      → Ok l ≡ left_of (kinds_in f (counts_in f).kinds) (counts_in f).kinds lines t.placed → Handed t l lines o r after → Packs (laid_plan f t lines) o r after
  unfolding left_of laid_left
  packs_laid l o r after e d =
      let q : l ≡ laid_left f t lines = accepted_as (when (over || short) 2) 0 _ l e in
      let w = laid_within (or_left over short (when_none (over || short) 1 (no_refusal (when (over || short) 2) 0 _ l e))) in
      rw w (record { answer_is = rw q at d.answer_is; words_are = rw q at d.words_are })
