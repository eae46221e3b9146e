-- What is said of a list of kind records.
use Rattle.std.specs.Prelude.{◌≡◌, refl, ℕ, zero, suc, cond, List, eqb, ltb, length, Option, Some, None, Result, Ok, Err, ⊤}
use Rattle.std.proofs.Common.{ne_eqb, arith}
use Rattle.domain.specs.declared.Refusal.{Refusal}
use Rattle.domain.specs.Bounds.{most_kinds}
use Rattle.lists.specs.Below.{sum_below}
use Rattle.domain.specs.Refusals.{when, or_else, first_below}
use Rattle.domain.specs.Refusal.{refusal_by, answer_with, answer_of}
use Rattle.measures.specs.declared.Kind.{Kind}
use Rattle.sheet.specs.Sheets.{kind_fault_in, quantity_of}
use Rattle.sheet_kinds.specs.declared.Fault.{Fault}
use Rattle.sheet_kinds.specs.declared.Surveyed.{Surveyed}

-- the first place below n at which g gives a number, or n where it gives none
unfoldable pub place_below : (ℕ → ℕ) → ℕ → ℕ
place_below g zero = 0
place_below g (suc n) = cond (eqb (first_below g n) 0) (cond (eqb (g n) 0) (suc n) n) (place_below g n)

-- what is said of a place that gets this number, 0 for none
abbrev pub fault_at : ℕ → ℕ → Option Fault
fault_at place zero = None
fault_at place (suc n) = Some (record { place = place; refusal = refusal_by (suc n) 0 })

-- the first faulty one below n, with what is given for it
unfoldable pub fault_below : (ℕ → ℕ) → ℕ → Option Fault
unfolding place_below
fault_below g n = fault_at (place_below g n) (first_below g n)

-- one more that is tested: the first stays
abbrev pub first_fault : Option Fault → ℕ → Result ⊤ Refusal → Option Fault
first_fault (Some f) place test = Some f
first_fault None place (Ok _) = None
first_fault None place (Err r) = Some (record { place = place; refusal = r })

-- RULES: Refusals. The total quantity of all the kinds, and the place and the number (4, 3 or 5) of the first faulty one, where there is one. Too many
-- kinds are refused by 2, and nothing is said of them.
unfoldable pub survey_of : List Kind → Result Surveyed Refusal
survey_of ks =
    answer_of (when (ltb most_kinds (length ks)) 2)
    (record { total = sum_below (quantity_of ks) (length ks); fault = fault_below (kind_fault_in ks) (length ks) })

-- ---- laws

-- the test of one more finds the first of all
pub fault_next : (g : ℕ → ℕ) (n : ℕ) → first_fault (fault_below g n) n (answer_of (g n) tt) ≡ fault_below g (suc n)
unfolding fault_below first_below or_else place_below answer_with
fault_next g n = go (first_below g n) (g n) refl refl
  where
    go : (a b : ℕ) → first_below g n ≡ a → g n ≡ b → first_fault (fault_below g n) n (answer_of (g n) tt) ≡ fault_below g (suc n)
    go zero zero ea eb = rw (ea, eb)
    go zero (suc b) ea eb = rw (ea, eb) (rw (ne_eqb (suc b) 0 (λ h. omega arith)))
    go (suc a) b ea eb = rw ea (rw (ne_eqb (suc a) 0 (λ h. omega arith)))
