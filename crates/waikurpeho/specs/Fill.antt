-- The fill call: a load file is read, then measured. RULES: Boundary
use Rattle.std.specs.Prelude.{◌≡◌, Bool, true, false, cond, List, ℕ, eqb, Ok, Err}
use Rattle.std.proofs.Common.{ap, arith, ne_eqb, ◌∙◌}
use Rattle.domain.specs.declared.Refusal.{Refusal}
use Rattle.domain.specs.Refusal.{number_of, no_refusal, accepted_as}
use Rattle.domain.specs.Numbers.{Numbered, when_numbered, or_numbered, told_number}
use Rattle.file_read.specs.Reading.{sheet_of, refusal_of}
use Rattle.file_read.specs.Numbered.{sheet_numbered, file_numbered}
use Rattle.fill_thousand.specs.Fill.{fill_refusal, per_thousand}
use Rattle.fill_thousand.specs.FileFill.{file_refusal, file_fill, file_answer}
use Rattle.plan_sheet.specs.Refused.{has_number}
use Rattle.answer_word.specs.Answer.{answer_of}

-- the count is 0: the fill can pass 32 bits, so it goes into a lent word of its own
unfoldable pub fill_answer : List ℕ → ℕ
fill_answer file = answer_of (file_refusal file) 0

-- that word afterwards: the fill per thousand, or what it held where the call is refused
unfoldable pub fill_after : List ℕ → ℕ → ℕ
fill_after file old = cond (eqb (file_refusal file) 0) (per_thousand (sheet_of file)) old

-- ---- both by the answer of the fill

fill_numbered : (file : List ℕ) → Numbered (file_refusal file)
unfolding file_refusal fill_refusal
fill_numbered file = go (eqb (refusal_of file) 0)
  where
    go : (b : Bool) → Numbered (cond b (fill_refusal (sheet_of file)) (refusal_of file))
    go true = or_numbered _ _ (sheet_numbered (sheet_of file)) (when_numbered _ 8 (omega arith))
    go false = file_numbered file

pub fill_refused : (file : List ℕ) (r : Refusal) → Err r ≡ file_fill file → answer_of (number_of r) 0 ≡ fill_answer file
unfolding fill_answer
fill_refused file r e = ap (λ (n : ℕ). answer_of n 0) (told_number (file_refusal file) 0 _ r (fill_numbered file) (e ∙ file_answer file))

pub fill_stays : (file : List ℕ) (old : ℕ) (r : Refusal) → Err r ≡ file_fill file → old ≡ fill_after file old
unfolding fill_after
fill_stays file old r e = rw (ne_eqb (file_refusal file) 0 (has_number (file_refusal file) 0 _ r (e ∙ file_answer file)))

pub fill_told : (file : List ℕ) (n : ℕ) → Ok n ≡ file_fill file → answer_of 0 0 ≡ fill_answer file
unfolding fill_answer
fill_told file n e = rw (no_refusal (file_refusal file) 0 _ n (e ∙ file_answer file))

pub fill_stored : (file : List ℕ) (old n : ℕ) → Ok n ≡ file_fill file → n ≡ fill_after file old
unfolding fill_after
fill_stored file old n e = rw (no_refusal (file_refusal file) 0 _ n (e ∙ file_answer file)) (accepted_as (file_refusal file) 0 _ n (e ∙ file_answer file))
