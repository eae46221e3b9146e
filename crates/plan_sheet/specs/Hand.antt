-- A plan handed out into lent words, six to a line: id, instance, orientation, and the bits of x, y and z.
use Rattle.std.specs.Prelude.{◌≡◌, refl, cond, ◌||◌, List, [], ◌∷◌, ℕ, zero, suc, ◌+◌, ◌*◌, ◌/◌, ◌≤◌, eqb, ltb, length, get_or, set, Result, Err}
use Rattle.std.proofs.Common.{arith, ltb-false, ne_eqb}
use Rattle.std.proofs.lemmas.List.Edits.{sets}
use Rattle.std.specs.Float.{binary64}
use Rattle.std.specs.Float.Ieee.{to_bits}
use Rattle.floats.specs.Ops.{x, y, z}
use Rattle.domain.specs.Bounds.{most_kinds, most_lines}
use Rattle.domain.specs.declared.Refusal.{Refusal}
use Rattle.domain.specs.Refusals.{when, or_else}
use Rattle.domain.specs.Refusal.{answer_with, refused_as}
use Rattle.lists.specs.Bools.{or_left}
use Rattle.domain.specs.Laws.{or_else_first, or_else_second, when_none}
use Rattle.sheet.specs.declared.Line.{Line}
use Rattle.sheet.specs.Sheets.{no_line}
use Rattle.plan_sheet.specs.declared.Packed.{Packed}
use Rattle.plan_sheet.specs.Plans.{Plan, plan_refusal}
use Rattle.lists.specs.Rows.{wrote}

-- the words of one line
abbrev pub words_of : Line → List ℕ
words_of l =
    l.id ∷ l.instance ∷ l.orientation ∷ to_bits binary64 (x l.at) ∷ to_bits binary64 (y l.at) ∷ to_bits binary64 (z l.at) ∷ []

-- row i of a plan's words
unfoldable pub line_words : List Line → ℕ → List ℕ
line_words lines i = words_of (get_or lines i no_line)

-- what the plan is refused by, then 6, where the lent slots are fewer than the results
unfoldable pub hand_refusal : ℕ → ℕ → ℕ → ℕ → ℕ
hand_refusal refused placed unplaced room = or_else (plan_refusal refused placed unplaced) (when (ltb (room / 6) placed) 6)

abbrev pub refusal_for : Plan → ℕ → ℕ
refusal_for p room = hand_refusal p.refused p.placed p.unplaced room

-- the lines that need room, which 6 tells: those placed, or where the plan itself is refused those that it needs
abbrev pub needed_for : ℕ → ℕ → ℕ → ℕ
needed_for refused placed considered = cond (eqb refused 0) placed considered

-- what is handed out
abbrev pub packed_of : Plan → Packed
packed_of p = record { placed = p.placed; considered = p.considered; utilization = p.utilization; unplaced = p.unplaced; ids = p.ids }

-- the answer, with room for so many words
unfoldable pub handed_of : Plan → ℕ → Result Packed Refusal
handed_of p room = answer_with (refusal_for p room) (needed_for p.refused p.placed p.considered) (packed_of p)

-- the words afterwards
unfoldable pub slots_of : Plan → List ℕ → List ℕ
slots_of p o = cond (eqb (refusal_for p (length o)) 0) (wrote (line_words p.lines) 6 p.placed o) o

-- ---- laws

-- what is handed out has room
pub record Room (placed room : ℕ) : Type 0 where
  pub lines : placed ≤ most_lines
  pub words : placed * 6 ≤ room

pub room_of : (refused placed unplaced room : ℕ) → hand_refusal refused placed unplaced room ≡ 0 → Room placed room
unfolding hand_refusal plan_refusal
room_of refused placed unplaced room h =
    let over = ltb most_lines placed || ltb most_kinds unplaced in
    let r = or_else_second refused _ (or_else_first (or_else refused (when over 2)) _ h) in
    let a = ltb-false most_lines placed (or_left (ltb most_lines placed) _ (when_none over 1 r)) in
    let b = ltb-false (room / 6) placed (when_none (ltb (room / 6) placed) 5 (or_else_second (or_else refused (when over 2)) _ h)) in
    record { lines = a; words = omega arith }

-- a plan that is refused is handed out as that refusal, and no word changes
own_refusal : {A B : Type 0} (refused considered placed unplaced room : ℕ) (u : A) (v : B) (r : Refusal) → Err r ≡ answer_with refused considered u
    → Err r ≡ answer_with (hand_refusal refused placed unplaced room) (needed_for refused placed considered) v
unfolding hand_refusal plan_refusal or_else answer_with
own_refusal zero considered placed unplaced room u v r e = absurd (cc)
own_refusal (suc n) considered placed unplaced room u v r e =
    rw (ne_eqb (suc n) 0 (λ z. omega arith)) (refused_as (suc n) considered u v r e)

pub handed_refused : {A : Type 0} (p : Plan) (room : ℕ) (u : A) (r : Refusal) → Err r ≡ answer_with p.refused p.considered u → Err r ≡ handed_of p room
unfolding handed_of
handed_refused p room u r e = own_refusal p.refused p.considered p.placed p.unplaced room u (packed_of p) r e

own_words : {A : Type 0} (refused considered placed unplaced room : ℕ) (u : A) (r : Refusal) (new old : List ℕ) → Err r ≡ answer_with refused considered u
    → old ≡ cond (eqb (hand_refusal refused placed unplaced room) 0) new old
unfolding hand_refusal plan_refusal or_else answer_with
own_words zero considered placed unplaced room u r new old e = absurd (cc)
own_words (suc n) considered placed unplaced room u r new old e = rw (ne_eqb (suc n) 0 (λ z. omega arith)) refl

pub slots_refused : {A : Type 0} (p : Plan) (o : List ℕ) (u : A) (r : Refusal) → Err r ≡ answer_with p.refused p.considered u → o ≡ slots_of p o
unfolding slots_of
slots_refused p o u r e = own_words p.refused p.considered p.placed p.unplaced (length o) u r _ o e

pub six : (lines : List Line) (i : ℕ) → length (line_words lines i) ≡ 6
unfolding line_words
six lines i = refl

-- stores at neighbouring places are one run of stores
pub six_sets : (o : List ℕ) (at a b c d e f : ℕ)
    → set (set (set (set (set (set o at a) (at + 1) b) (at + 2) c) (at + 3) d) (at + 4) e) (at + 5) f ≡ sets o at (a ∷ b ∷ c ∷ d ∷ e ∷ f ∷ [])
six_sets o at a b c d e f =
    let p1 : at + 1 ≡ suc at = omega arith in
    let p2 : at + 2 ≡ suc (suc at) = omega arith in
    let p3 : at + 3 ≡ suc (suc (suc at)) = omega arith in
    let p4 : at + 4 ≡ suc (suc (suc (suc at))) = omega arith in
    let p5 : at + 5 ≡ suc (suc (suc (suc (suc at)))) = omega arith in
    rw (p1, p2, p3, p4, p5)
