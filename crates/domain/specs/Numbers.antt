-- There are nine refusal numbers: what is refused by one of them is told by it.
use Rattle.std.specs.Prelude.{◌≡◌, refl, Bool, true, false, ℕ, zero, suc, ◌≤◌, Result, Ok, Err}
use Rattle.std.proofs.Common.{arith}
use Rattle.domain.specs.declared.Refusal.{Refusal}
use Rattle.domain.specs.declared.Refusal.TheVariants.{Shape, Count, Measure, Record, Repeated, Room, Full, Uneven, Stranger}
use Rattle.domain.specs.Refusals.{when, or_else, first_below}
use Rattle.domain.specs.Refusal.{number_of, refusal_by, answer_with}

-- one of the nine, or none
abbrev pub Numbered : ℕ → Type 0
Numbered n = n ≤ 9

pub when_numbered : (b : Bool) (n : ℕ) → Numbered n → Numbered (when b n)
when_numbered true n h = h
when_numbered false n h = omega arith

pub or_numbered : (a b : ℕ) → Numbered a → Numbered b → Numbered (or_else a b)
unfolding or_else
or_numbered zero b h k = k
or_numbered (suc a) b h k = h

pub first_numbered : (g : ℕ → ℕ) (n : ℕ) → ((k : ℕ) → Numbered (g k)) → Numbered (first_below g n)
unfolding first_below
first_numbered g zero h = omega arith
first_numbered g (suc n) h = or_numbered (first_below g n) (g n) (first_numbered g n h) (h n)

-- the number of the refusal of a number
pub number_back : (n needed : ℕ) → Numbered n → (n ≡ 0 → ⊥) → number_of (refusal_by n needed) ≡ n
number_back zero needed h z = absurd (z refl)
number_back (suc zero) needed h z = refl
number_back (suc (suc zero)) needed h z = refl
number_back (suc (suc (suc zero))) needed h z = refl
number_back (suc (suc (suc (suc zero)))) needed h z = refl
number_back (suc (suc (suc (suc (suc zero))))) needed h z = refl
number_back (suc (suc (suc (suc (suc (suc zero)))))) needed h z = refl
number_back (suc (suc (suc (suc (suc (suc (suc zero))))))) needed h z = refl
number_back (suc (suc (suc (suc (suc (suc (suc (suc zero)))))))) needed h z = refl
number_back (suc (suc (suc (suc (suc (suc (suc (suc (suc zero))))))))) needed h z = refl
number_back (suc (suc (suc (suc (suc (suc (suc (suc (suc (suc n)))))))))) needed h z = absurd (omega arith)

-- so an answer that is a refusal tells its number
pub told_number : {A : Type 0} (n needed : ℕ) (v : A) (r : Refusal) → Numbered n → Err r ≡ answer_with n needed v → number_of r ≡ n
unfolding answer_with
told_number zero needed v r h e = absurd (cc)
told_number (suc n) needed v r h e = let k : r ≡ refusal_by (suc n) needed = cc in rw k (number_back (suc n) needed h (λ z. omega (arith, z)))

-- ---- an answer by its number

-- the number of an answer, 0 where it is no refusal
abbrev pub number_in : {A : Type 0} → Result A Refusal → ℕ
number_in (Ok v) = 0
number_in (Err r) = number_of r

-- an answer has the number that it is refused by
pub number_is : {A : Type 0} (n needed : ℕ) (v : A) → Numbered n → number_in (answer_with n needed v) ≡ n
unfolding answer_with
number_is zero needed v h = refl
number_is (suc n) needed v h = number_back (suc n) needed h (λ z. omega (arith, z))

some_number : (r : Refusal) → number_of r ≡ 0 → ⊥
some_number Shape e = omega (arith, e)
some_number Count e = omega (arith, e)
some_number Measure e = omega (arith, e)
some_number Record e = omega (arith, e)
some_number Repeated e = omega (arith, e)
some_number (Room n) e = omega (arith, e)
some_number Full e = omega (arith, e)
some_number Uneven e = omega (arith, e)
some_number Stranger e = omega (arith, e)

-- and where it has none, it is not refused
pub unnumbered : {A : Type 0} (n needed : ℕ) (v : A) → number_in (answer_with n needed v) ≡ 0 → n ≡ 0
unfolding answer_with
unnumbered zero needed v e = refl
unnumbered (suc n) needed v e = absurd (some_number (refusal_by (suc n) needed) e)
