-- What a file is accepted as: its refusal, and where it has none the counts of its sections and where its lines start and end. RULES: Refusals
use Rattle.std.specs.Prelude.{◌≡◌, refl, not, List, ℕ, Result, Ok}
use Rattle.domain.specs.declared.Refusal.{Refusal}
use Rattle.domain.specs.Refusals.{when}
use Rattle.domain.specs.Refusal.{answer_of, no_refusal, accepted_as}
use Rattle.domain.specs.Numbers.{number_in, number_is}
use Rattle.lists.specs.Bools.{not_true_of}
use Rattle.domain.specs.Laws.{or_else_first, or_else_second, when_none}
use Rattle.sheet.specs.Sheets.{over_count, sheet_refusal}
use Rattle.file_read.specs.Form.{right_shape, counts_of, lines_start, unplaced_start}
use Rattle.file_read.specs.Reading.{sheet_of, refusal_of}
use Rattle.file_accept.specs.declared.Accepted.{Accepted}
use Rattle.file_read.specs.Records.{Readable}
use Rattle.file_read.specs.Numbered.{file_numbered}

abbrev pub taken_as : List ℕ → Accepted
taken_as f =
    record {
      kinds = (sheet_of f).many.kinds;
      lines = (sheet_of f).many.lines;
      unplaced = (sheet_of f).many.unplaced;
      start = lines_start f;
      end = unplaced_start f;
    }

-- a file that is not refused
abbrev pub accept_of : List ℕ → Result Accepted Refusal
accept_of f = answer_of (refusal_of f) (taken_as f)

-- its refusal is that of the file
pub refusal_is : (f : List ℕ) → number_in (accept_of f) ≡ refusal_of f
refusal_is f = number_is (refusal_of f) 0 (taken_as f) (file_numbered f)

-- ---- what a caller knows

pub readable : (f : List ℕ) → refusal_of f ≡ 0 → Readable f
unfolding refusal_of sheet_refusal sheet_of
readable f h =
    let over = over_count (counts_of f) in
    let wrong = not (right_shape f) in
    record {
      shape = not_true_of (right_shape f) (when_none wrong 0 (or_else_first (when wrong 1) _ h));
      counts_right = when_none over 1 (or_else_first (when over 2) _ (or_else_second (when wrong 1) _ h));
    }

-- an accepted file
pub record Taken (f : List ℕ) (a : Accepted) : Type 0 where
  pub sound : refusal_of f ≡ 0
  pub can_read : Readable f
  pub kinds_are : a.kinds ≡ (counts_of f).kinds
  pub lines_are : a.lines ≡ (counts_of f).lines
  pub unplaced_are : a.unplaced ≡ (counts_of f).unplaced
  pub start_is : a.start ≡ lines_start f
  pub end_is : a.end ≡ unplaced_start f

pub taken : (f : List ℕ) (a : Accepted) → Ok a ≡ accept_of f → Taken f a
unfolding sheet_of
taken f a e =
    let s : refusal_of f ≡ 0 = no_refusal (refusal_of f) 0 (taken_as f) a e in
    let t : a ≡ taken_as f = accepted_as (refusal_of f) 0 (taken_as f) a e in
    rw t (record { sound = s; can_read = readable f s; kinds_are = refl; lines_are = refl; unplaced_are = refl; start_is = refl; end_is = refl })
