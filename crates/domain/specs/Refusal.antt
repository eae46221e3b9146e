-- Refusals as the code has them, by their numbers. RULES: Refusals
use Rattle.std.specs.Prelude.{◌≡◌, refl, Bool, true, false, cond, eqb, ltb, leb, ℕ, zero, suc, ◌+◌, ◌<◌, ◌≤◌, Result, Ok, Err}
use Rattle.std.proofs.Common.{⊎_elim, eq-or-lt_of_le, le_of_suc-le-suc, not-suc-le-zero, add-one, le-leb, ltb-false}
use Rattle.std.proofs.lemmas.Bool.{lt-leb, ltb-true}
use Rattle.domain.specs.Laws.{when_none}
use Rattle.domain.specs.declared.Refusal.{Refusal}
use Rattle.domain.specs.declared.Refusal.TheVariants.{Shape, Count, Measure, Record, Repeated, Room, Full, Uneven, Stranger}
use Rattle.domain.specs.Refusals.{when, or_else, first_below}

-- the number of each
abbrev pub number_of : Refusal → ℕ
number_of Shape = 1
number_of Count = 2
number_of Measure = 3
number_of Record = 4
number_of Repeated = 5
number_of (Room n) = 6
number_of Full = 7
number_of Uneven = 8
number_of Stranger = 9

-- the number that needs room, which 6 alone tells
abbrev pub needed_of : Refusal → ℕ
needed_of Shape = 0
needed_of Count = 0
needed_of Measure = 0
needed_of Record = 0
needed_of Repeated = 0
needed_of (Room n) = n
needed_of Full = 0
needed_of Uneven = 0
needed_of Stranger = 0

-- RULES: Refusals. The refusal of a number; there are nine, and no other number is given
abbrev pub refusal_by : ℕ → ℕ → Refusal
refusal_by number needed =
    cond (eqb number 1) Shape
    (cond (eqb number 2) Count
    (cond (eqb number 3) Measure
    (cond (eqb number 4) Record
    (cond (eqb number 5) Repeated
    (cond (eqb number 6) (Room needed) (cond (eqb number 7) Full (cond (eqb number 8) Uneven Stranger)))))))

-- what a call answers that is refused by this number, 0 for none: then this value. Refusal 6 tells the number that needs room
unfoldable pub answer_with : {A : Type 0} → ℕ → ℕ → A → Result A Refusal
answer_with zero needed v = Ok v
answer_with (suc n) needed v = Err (refusal_by (suc n) needed)

-- the same of a call that is not refused for want of room
abbrev pub answer_of : {A : Type 0} → ℕ → A → Result A Refusal
answer_of number v = answer_with number 0 v

-- refused by this number, 0 for none: then what is answered after it
unfoldable pub refused_or : {A : Type 0} → ℕ → Result A Refusal → Result A Refusal
refused_or zero after = after
refused_or (suc n) after = Err (refusal_by (suc n) 0)

-- the room that results need, where there is less refused by 6 with the number needed
abbrev pub with_room : {A : Type 0} → ℕ → ℕ → A → Result A Refusal
with_room lent needed v = cond (leb needed lent) (Ok v) (Err (Room needed))

-- ---- laws: each from what a call answered to what its caller answers

-- where the test holds, and where it doesn't
pub refused_when : {A : Type 0} (b : Bool) (r : Refusal) (v : A) → b ≡ true → Err r ≡ answer_with (when b (number_of r)) (needed_of r) v
unfolding answer_with
refused_when true Shape v e = refl
refused_when true Count v e = refl
refused_when true Measure v e = refl
refused_when true Record v e = refl
refused_when true Repeated v e = refl
refused_when true (Room n) v e = refl
refused_when true Full v e = refl
refused_when true Uneven v e = refl
refused_when true Stranger v e = refl
refused_when false r v e = absurd (cc)

pub passed_when : {A : Type 0} (b : Bool) (n needed : ℕ) (v : A) → b ≡ false → Ok v ≡ answer_with (when b n) needed v
unfolding answer_with
passed_when false n needed v e = refl
passed_when true n needed v e = absurd (cc)

-- a refusal is one whatever the value
pub refused_as : {A B : Type 0} (n needed : ℕ) (u : A) (v : B) (r : Refusal) → Err r ≡ answer_with n needed u → Err r ≡ answer_with n needed v
unfolding answer_with
refused_as (suc n) needed u v r e = cc
refused_as zero needed u v r e = absurd (cc)

-- of two the first that refuses counts
pub first_refuses : {A B : Type 0} (a b needed : ℕ) (u : A) (v : B) (r : Refusal)
    → Err r ≡ answer_with a needed u → Err r ≡ answer_with (or_else a b) needed v
unfolding answer_with or_else
first_refuses (suc a) b needed u v r e = cc
first_refuses zero b needed u v r e = absurd (cc)

pub first_passes : {A B : Type 0} (a b needed : ℕ) (u w : A) (v : B)
    → Ok w ≡ answer_with a needed u → answer_with b needed v ≡ answer_with (or_else a b) needed v
unfolding answer_with or_else
first_passes zero b needed u w v e = refl
first_passes (suc a) b needed u w v e = absurd (cc)

-- a call that isn't refused has no number
pub no_refusal : {A : Type 0} (n needed : ℕ) (u w : A) → Ok w ≡ answer_with n needed u → n ≡ 0
unfolding answer_with
no_refusal zero needed u w e = refl
no_refusal (suc n) needed u w e = absurd (cc)

-- and gives the value
pub accepted_as : {A : Type 0} (n needed : ℕ) (u w : A) → Ok w ≡ answer_with n needed u → w ≡ u
unfolding answer_with
accepted_as zero needed u w e = cc
accepted_as (suc n) needed u w e = absurd (cc)

pub no_number : {A : Type 0} (n needed : ℕ) (v : A) → n ≡ 0 → Ok v ≡ answer_with n needed v
unfolding answer_with
no_number n needed v e = rw e refl

-- what is refused by a number is so whatever comes after it, and what isn't is answered by that
pub or_refuses : {A B : Type 0} (n : ℕ) (u : A) (after : Result B Refusal) (r : Refusal) → Err r ≡ answer_of n u → Err r ≡ refused_or n after
unfolding answer_with refused_or
or_refuses (suc n) u after r e = cc
or_refuses zero u after r e = absurd (cc)

pub or_passes : {A B : Type 0} (n : ℕ) (u w : A) (after : Result B Refusal) → Ok w ≡ answer_of n u → after ≡ refused_or n after
unfolding answer_with refused_or
or_passes zero u w after e = refl
or_passes (suc n) u w after e = absurd (cc)

-- room refused, and found
pub room_refuses : {A : Type 0} (lent needed : ℕ) (v : A) (r : Refusal)
    → Err r ≡ answer_with (when (ltb lent needed) 6) needed (tt {0}) → Err r ≡ with_room lent needed v
unfolding answer_with
room_refuses lent needed v r e = go (ltb lent needed) refl e
  where
    go : (b : Bool) → ltb lent needed ≡ b → Err r ≡ answer_with (when b 6) needed (tt {0}) → Err r ≡ with_room lent needed v
    go true h e = let k : r ≡ Room needed = cc in rw (lt-leb needed lent (ltb-true lent needed h)) (rw k)
    go false h e = absurd (cc)

pub room_found : {A : Type 0} (lent needed : ℕ) (v : A) → Ok (tt {0}) ≡ answer_with (when (ltb lent needed) 6) needed (tt {0})
    → Ok v ≡ with_room lent needed v
unfolding answer_with
room_found lent needed v e = go (ltb lent needed) refl e
  where
    go : (b : Bool) → ltb lent needed ≡ b → Ok (tt {0}) ≡ answer_with (when b 6) needed (tt {0}) → Ok v ≡ with_room lent needed v
    go true h e = absurd (cc)
    go false h e = rw (le-leb needed lent (ltb-false lent needed h))

-- room found is enough
pub room_enough : (lent needed : ℕ) → Ok (tt {0}) ≡ answer_with (when (ltb lent needed) 6) needed (tt {0}) → needed ≤ lent
room_enough lent needed e = ltb-false lent needed (when_none (ltb lent needed) 5 (no_refusal _ needed (tt {0}) (tt {0}) e))

-- and of many: none below k refuses, and that of k does
pub first_at : {A B : Type 0} (g : ℕ → ℕ) (n k needed : ℕ) (u : A) (v : B) (r : Refusal)
    → first_below g k ≡ 0 → k < n → Err r ≡ answer_with (g k) needed u → Err r ≡ answer_with (first_below g n) needed v
unfolding first_below or_else
first_at g zero k needed u v r h l e = absurd (not-suc-le-zero l)
first_at g (suc n) k needed u v r h l e =
    ⊎_elim (λ i. let h' : first_below g n ≡ 0 = rw i at h in rw h' (refused_as (g n) needed u v r (rw i at e)))
    (λ m. first_refuses (first_below g n) (g n) needed v v r (first_at g n k needed u v r h m e))
    (eq-or-lt_of_le (le_of_suc-le-suc l))

-- none below n refuses where none below k does, and that of k neither
pub none_to : (g : ℕ → ℕ) (k : ℕ) → first_below g k ≡ 0 → g k ≡ 0 → first_below g (k + 1) ≡ 0
unfolding first_below or_else
none_to g k h e = rw (add-one, h) e
