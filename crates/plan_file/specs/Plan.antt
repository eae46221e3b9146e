-- The plan calls: a load file is read as an order, planned, and the planned sheet written as form 1.
use Rattle.std.specs.Prelude.{◌≡◌, cond, List, ℕ, eqb, length, set, is_ok}
use Rattle.std.specs.Float.{binary64}
use Rattle.std.specs.Float.Ieee.{to_bits}
use Rattle.sheet.specs.declared.Sheet.{Sheet}
use Rattle.plan_sheet.specs.Plans.{Plan}
use Rattle.plan_sheet.specs.Planned.{sheet_from}
use Rattle.file_read.specs.Reading.{sheet_of, refusal_of}
use Rattle.file_write.specs.Writing.{written_of, bytes_after}
use Rattle.answer_word.specs.Answer.{answer_of, word_told}

-- the planned sheet's length, or the plan's refusal, or 6 and the length needed
unfoldable pub plan_answer : Sheet → Plan → ℕ → ℕ
plan_answer order plan room = let p = sheet_from order plan in cond (eqb p.refused 0) (word_told (written_of p.sheet room)) (answer_of p.refused 0)

-- the lent bytes afterwards
unfoldable pub plan_bytes : Sheet → Plan → List ℕ → List ℕ
plan_bytes order plan out = let p = sheet_from order plan in cond (eqb p.refused 0) (bytes_after p.sheet out) out

-- the figures are the boxes considered and the utilization's bits
unfoldable pub plan_figures : Sheet → Plan → ℕ → List ℕ → List ℕ
plan_figures order plan room old =
    let p = sheet_from order plan in
    cond (eqb p.refused 0)
    (cond (is_ok (written_of p.sheet room)) (set (set old 0 plan.considered) 1 (to_bits binary64 plan.utilization)) old)
    old

-- ---- the same of an order in a load file, which is refused whole as reading it is, for either placer
abbrev pub Planner : Type 0
Planner = Sheet → ℕ → Plan

unfoldable pub order_answer : Planner → List ℕ → ℕ → ℕ → ℕ
order_answer plan_of file consider room =
    cond (eqb (refusal_of file) 0) (plan_answer (sheet_of file) (plan_of (sheet_of file) consider) room) (answer_of (refusal_of file) 0)

unfoldable pub order_bytes : Planner → List ℕ → ℕ → List ℕ → List ℕ
order_bytes plan_of file consider out =
    cond (eqb (refusal_of file) 0) (plan_bytes (sheet_of file) (plan_of (sheet_of file) consider) out) out

unfoldable pub order_figures : Planner → List ℕ → ℕ → ℕ → List ℕ → List ℕ
order_figures plan_of file consider room old =
    cond (eqb (refusal_of file) 0) (plan_figures (sheet_of file) (plan_of (sheet_of file) consider) room old) old

-- what a plan call answers, and what it leaves in the lent bytes and figures
pub record Answers (plan_of : Planner) (file : List ℕ) (consider : ℕ) (out old : List ℕ) (r : ℕ) (bytes figures : List ℕ) : Type 0 where
  pub answer_is : r ≡ order_answer plan_of file consider (length out)
  pub bytes_are : bytes ≡ order_bytes plan_of file consider out
  pub figures_are : figures ≡ order_figures plan_of file consider (length out) old
