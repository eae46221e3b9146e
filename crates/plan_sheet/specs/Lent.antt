-- A plan whose lines stand in lent memory: the plan, and its words.
use Rattle.std.specs.Prelude.{◌≡◌, refl, Bool, true, false, ◌||◌, List, ◌++◌, ℕ, ◌*◌, ◌/◌, ◌≤◌, ltb, length, get_or, drop, Result, Err}
use Rattle.std.proofs.Common.{sym, ap, le-ltb, ltb-false, ne_eqb}
use Rattle.domain.specs.Laws.{or_else_first, when_none}
use Rattle.lists.specs.Below.{all_same}
use Rattle.lists.specs.Table.{table, table_at}
use Rattle.lists.specs.Rows.{wrote}
use Rattle.domain.specs.Bounds.{most_kinds, most_lines}
use Rattle.domain.specs.declared.Refusal.{Refusal}
use Rattle.domain.specs.Refusals.{when, or_else}
use Rattle.domain.specs.Refusal.{answer_with, answer_of}
use Rattle.sheet.specs.Sheets.{no_line, blank_line}
use Rattle.sheet.specs.declared.Line.{Line}
use Rattle.plan_unplaced.specs.declared.Left.{Left}
use Rattle.plan_sheet.specs.Plans.{Plan, plan_refusal}
use Rattle.plan_sheet.specs.declared.Told.{Told}
use Rattle.plan_sheet.specs.declared.Packed.{Packed}
use Rattle.plan_sheet.specs.Refused.{has_number}
use Rattle.plan_sheet.specs.Hand.{words_of, line_words, hand_refusal, needed_for, handed_of, slots_of}

-- RULES: Plans. The plan that is told of, its lines the first of these, with this unplaced list; refused by 2 where there are fewer of them.
unfoldable pub plan_by : Told → Left → List Line → Plan
plan_by told left lines =
    record {
      refused = when (ltb (length lines) told.placed) 2;
      considered = told.considered;
      utilization = told.utilization;
      placed = told.placed;
      unplaced = left.count;
      lines = table blank_line most_lines (λ i. get_or lines i no_line) told.placed;
      ids = left.ids;
    }

-- what handing it out gives, and leaves in the lent words
pub record Handed (told : Told) (left : Left) (lines : List Line) (o : List ℕ) (r : Result Packed Refusal) (after : List ℕ) : Type 0 where
  pub answer_is : r ≡ handed_of (plan_by told left lines) (length o)
  pub words_are : after ≡ slots_of (plan_by told left lines) o

-- ---- laws

-- of as many lines as are placed it is not refused
pub by_long : (told : Told) (left : Left) (lines : List Line) → told.placed ≤ length lines → (plan_by told left lines).refused ≡ 0
unfolding plan_by
by_long told left lines h = rw (le-ltb (length lines) told.placed h)

-- and where handing it out refuses nothing, there are as many
pub hand_long : (told : Told) (left : Left) (lines : List Line) (room : ℕ)
    → hand_refusal (plan_by told left lines).refused told.placed left.count room ≡ 0
    → told.placed ≤ length lines
unfolding hand_refusal plan_refusal plan_by
hand_long told left lines room h =
    let own = when (ltb (length lines) told.placed) 2 in
    ltb-false (length lines) told.placed (when_none (ltb (length lines) told.placed) 1 (or_else_first own _ (or_else_first (or_else own _) _ h)))

-- the words of the lines are those of the plan
pub words_by : (lines : List Line) (n : ℕ) (o : List ℕ) → n ≤ most_lines
    → wrote (line_words lines) 6 n o ≡ wrote (line_words (table blank_line most_lines (λ i. get_or lines i no_line) n)) 6 n o
unfolding wrote line_words
words_by lines n o few =
    ap (λ (l : List ℕ). l ++ drop (n * 6) o)
    (all_same (λ i. words_of (get_or lines i no_line))
    (λ i. words_of (get_or (table blank_line most_lines (λ i. get_or lines i no_line) n) i no_line)) n
    (λ i l. ap words_of (sym (table_at blank_line most_lines (λ i. get_or lines i no_line) n i no_line few l))))

-- ---- the tests in turn: too few lines, too many lines or ids, too few words. The first that holds refuses

abbrev by_three : {A : Type 0} → Bool → Bool → Bool → ℕ → ℕ → A → Result A Refusal
by_three short over few placed considered x =
    answer_with (or_else (or_else (when short 2) (when over 2)) (when few 6)) (needed_for (when short 2) placed considered) x

first_of : {A B : Type 0} (short over few : Bool) (placed considered : ℕ) (u : B) (x : A) (r : Refusal) → Err r ≡ answer_of (when short 2) u
    → Err r ≡ by_three short over few placed considered x
unfolding answer_with or_else
first_of true over few placed considered u x r e = cc
first_of false over few placed considered u x r e = absurd (cc)

second_of : {A B : Type 0} (over few : Bool) (placed considered : ℕ) (u : B) (x : A) (r : Refusal) → Err r ≡ answer_of (when over 2) u
    → Err r ≡ by_three false over few placed considered x
unfolding answer_with or_else
second_of true few placed considered u x r e = cc
second_of false few placed considered u x r e = absurd (cc)

third_of : {A B : Type 0} (few : Bool) (placed considered : ℕ) (u : B) (x : A) (r : Refusal) → Err r ≡ answer_with (when few 6) placed u
    → Err r ≡ by_three false false few placed considered x
unfolding answer_with or_else
third_of true placed considered u x r e = cc
third_of false placed considered u x r e = absurd (cc)

module _ (told : Told) (left : Left) (lines : List Line) (o : List ℕ) where
  abbrev short : Bool
  short = ltb (length lines) told.placed

  abbrev over : Bool
  over = ltb most_lines told.placed || ltb most_kinds left.count

  abbrev few : Bool
  few = ltb (length o / 6) told.placed

  -- a refusal leaves the words
  refuses : (r : Refusal) → Err r ≡ handed_of (plan_by told left lines) (length o) → Handed told left lines o (Err r) o
  unfolding handed_of slots_of
  refuses r e = record { answer_is = e; words_are = rw (ne_eqb _ 0 (has_number _ _ _ r e)) refl }

  pub hand_short : {A : Type 0} (u : A) (r : Refusal) → Err r ≡ answer_of (when short 2) u → Handed told left lines o (Err r) o
  unfolding handed_of plan_by hand_refusal plan_refusal
  hand_short u r e = refuses r (first_of short over few told.placed told.considered u _ r e)

  module _ (long : short ≡ false) where
    pub hand_over : {A : Type 0} (u : A) (r : Refusal) → Err r ≡ answer_of (when over 2) u → Handed told left lines o (Err r) o
    unfolding handed_of plan_by hand_refusal plan_refusal
    hand_over u r e = refuses r (rw long (second_of over few told.placed told.considered u _ r e))

    module _ (within : over ≡ false) where
      pub hand_few : {A : Type 0} (u : A) (r : Refusal) → Err r ≡ answer_with (when few 6) told.placed u → Handed told left lines o (Err r) o
      unfolding handed_of plan_by hand_refusal plan_refusal
      hand_few u r e = refuses r (rw (long, within) (third_of few told.placed told.considered u _ r e))

      -- nothing is refused where there are words for all lines
      pub none_refused : few ≡ false → hand_refusal (plan_by told left lines).refused told.placed left.count (length o) ≡ 0
      unfolding plan_by hand_refusal plan_refusal or_else
      none_refused room = rw (long, within, room)
