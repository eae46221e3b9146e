-- Beside the theorems on the order of lines (proofs/OrderOfLines.antt): no finding is left out of their comparison, and what a call writes are the findings.
use Rattle.std.specs.Prelude.{◌≡◌, refl, Bool, true, false, cond, ℕ, zero, suc, ◌*◌, ◌/◌, ◌≤◌, eqb, ltb, length, take, drop, Result}
use Rattle.std.proofs.Common.{sym, ap, ◌∙◌, inl, inr, mul_comm, mul-div_cancel, zero-lt-suc, arith, eq-eqb, ne_eqb, le-ltb}
use mathlib.Core.List.{List, [], ◌∷◌, ◌++◌}
use Rattle.std.proofs.Math.Seq.{take-append_seam}
use Rattle.domain.specs.Refusals.{when, or_else}
use Rattle.domain.specs.declared.Refusal.{Refusal}
use Rattle.domain.specs.Refusal.{needed_of, refusal_by, answer_with}
use Rattle.domain.specs.Numbers.{Numbered, when_numbered, or_numbered, number_in, number_is, unnumbered}
use Rattle.domain.specs.Laws.{or_else_first}
use Rattle.sheet.specs.declared.Sheet.{Sheet}
use Rattle.sheet.specs.Sheets.{sheet_refusal}
use Rattle.file_read.specs.Numbered.{sheet_numbered}
use Rattle.check_packing.specs.Check.{check_refusal, count_of, checked_of, cells_of}
use Rattle.check_order.specs.Demand.{count_in, written, Compared}
use Rattle.check_order.specs.Demand.{Each}
use Rattle.check_order.specs.Parts.{Any, each_line, each_from, each_mass, each_missing, each_listed, each_finding, findings_whole}
use Rattle.check_packing.specs.Findings.{findings}

-- nothing is left out of the comparison: each finding is one that it compares
pub nothing_left_out : (s : Sheet) → Each (Compared s.many.lines) (findings s)
nothing_left_out s =
    let q = Compared s.many.lines in
    each_finding q s
    (λ i l. each_line q s i (λ c a b d h. inl (h, l)))
    (λ i l. each_from q s i (λ j m k c d e h. inr (inl (h, k, m))))
    (each_mass q s (λ m l. inr (inr refl)))
    (λ k. each_missing q s k (λ id. inr (inr refl)))
    (λ i. each_listed q s i (λ id. inr (inr refl)))

-- ---- what the call writes

fives : (ws : List ℕ) → Each Any ws → (n : ℕ) × (length ws ≡ n * 5)
fives [] h = (0, refl)
fives (c ∷ []) h = absurd h
fives (c ∷ a ∷ []) h = absurd h
fives (c ∷ a ∷ b ∷ []) h = absurd h
fives (c ∷ a ∷ b ∷ d ∷ []) h = absurd h
fives (c ∷ a ∷ b ∷ d ∷ e ∷ ws) h = let r = fives ws h.1 in (suc r.0, more (length ws) r.0 r.1)
  where
    more : (l n : ℕ) → l ≡ n * 5 → suc (suc (suc (suc (suc l)))) ≡ suc n * 5
    more l n e = omega arith

-- five words to each finding that is counted
pub words_counted : (s : Sheet) → 5 * (length (findings s) / 5) ≡ length (findings s)
words_counted s =
    let r = fives (findings s) (findings_whole s) in
    ap (λ (l : ℕ). 5 * (l / 5)) r.1 ∙ ap (λ (n : ℕ). 5 * n) (mul-div_cancel r.0 (zero-lt-suc 4)) ∙ mul_comm 5 r.0 ∙ sym r.1

-- of two refusals that need no room neither does
neither : (b : Bool) (r q : Refusal) → needed_of r ≡ 0 → needed_of q ≡ 0 → needed_of (cond b r q) ≡ 0
neither true r q h k = h
neither false r q h k = k

-- none of the nine needs room where nothing is needed
none_needed : (n : ℕ) → needed_of (refusal_by n 0) ≡ 0
none_needed n =
    neither (eqb n 1) _ _ refl
    (neither (eqb n 2) _ _ refl
    (neither (eqb n 3) _ _ refl
    (neither (eqb n 4) _ _ refl
    (neither (eqb n 5) _ _ refl (neither (eqb n 6) _ _ refl (neither (eqb n 7) _ _ refl (neither (eqb n 8) _ _ refl refl)))))))

-- a call answers how many there are, refused for want of room too; of a sheet that is refused, none
pub counted : (s : Sheet) (o : List ℕ) → count_in (checked_of s o) ≡ count_of s
unfolding checked_of check_refusal count_of or_else answer_with
counted s o = go (sheet_refusal s) (ltb (length o) (length (findings s))) (length (findings s) / 5)
  where
    go : (r : ℕ) (short : Bool) (n : ℕ)
        → count_in (answer_with (or_else r (when short 6)) (cond (eqb r 0) n 0) (cond (eqb r 0) n 0)) ≡ cond (eqb r 0) n 0
    go zero true n = refl
    go zero false n = refl
    go (suc r) short n = rw (ne_eqb (suc r) 0 (λ e. omega arith)) (none_needed (suc r))

-- an accepted sheet, with room lent for all findings, is not refused
pub not_refused : (s : Sheet) (o : List ℕ) → sheet_refusal s ≡ 0 → length (findings s) ≤ length o → number_in (checked_of s o) ≡ 0
unfolding checked_of check_refusal or_else answer_with
not_refused s o h l = rw (h, le-ltb (length o) (length (findings s)) l) refl

-- as many findings as there are, five words each, of what the cells hold after a call
abbrev pub taken : Sheet → List ℕ → List ℕ
taken s o = take (5 * count_of s) (cells_of s o)

-- which is what a call writes
pub written_taken : (s : Sheet) (o : List ℕ) → written s o ≡ taken s o
written_taken s o = ap (λ (n : ℕ). take (5 * n) (cells_of s o)) (counted s o)

-- they are the findings where there is no refusal
pub taken_findings : (s : Sheet) (o : List ℕ) → check_refusal s o ≡ 0 → taken s o ≡ findings s
unfolding check_refusal count_of cells_of
taken_findings s o h =
    ap (λ (v : Bool). take (5 * cond v (length (findings s) / 5) 0) (cells_of s o))
    (eq-eqb (sheet_refusal s) 0 (or_else_first (sheet_refusal s) (when (ltb (length o) (length (findings s))) 6) h))
    ∙ ap (λ (v : ℕ). take v (cells_of s o)) (words_counted s)
    ∙ ap (λ (v : Bool). take (length (findings s)) (cond v (findings s ++ drop (length (findings s)) o) o)) (eq-eqb (check_refusal s o) 0 h)
    ∙ take-append_seam (findings s) (drop (length (findings s)) o)

-- and where it is not refused, what it writes are the findings
pub written_findings : (s : Sheet) (o : List ℕ) → number_in (checked_of s o) ≡ 0 → written s o ≡ findings s
unfolding checked_of
written_findings s o h = written_taken s o ∙ taken_findings s o (unnumbered (check_refusal s o) (count_of s) (count_of s) h)

-- ---- the same by what the sheet and the cells are refused by, which is the answer's number

check_numbered : (s : Sheet) (o : List ℕ) → Numbered (check_refusal s o)
unfolding check_refusal
check_numbered s o = or_numbered _ _ (sheet_numbered s) (when_numbered _ 6 (omega arith))

pub number_answered : (s : Sheet) (o : List ℕ) → number_in (checked_of s o) ≡ check_refusal s o
unfolding checked_of
number_answered s o = number_is (check_refusal s o) (count_of s) (count_of s) (check_numbered s o)

-- an accepted sheet, with room lent for all findings, is refused by nothing
pub refused_by_none : (s : Sheet) (o : List ℕ) → sheet_refusal s ≡ 0 → length (findings s) ≤ length o → check_refusal s o ≡ 0
refused_by_none s o h l = sym (number_answered s o) ∙ not_refused s o h l
