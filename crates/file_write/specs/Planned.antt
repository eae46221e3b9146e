-- A planned sheet written from the order's bytes and the plan's lines: the container block and the kinds stay the bytes that they are.
-- RULES: Load file, Plans
use Rattle.std.specs.Prelude.{◌≡◌, ℕ, Bool, cond, ◌||◌, List, ◌++◌, ltb, length, drop, Result, Ok, Err, is_ok}
use Rattle.domain.specs.declared.Refusal.{Refusal}
use Rattle.domain.specs.Refusals.{when}
use Rattle.domain.specs.Refusal.{refused_or, with_room}
use Rattle.domain.specs.Bounds.{most_kinds, most_lines}
use Rattle.sheet.specs.declared.Counts.{Counts}
use Rattle.sheet.specs.declared.Line.{Line}
use Rattle.file_bytes.specs.Bytes.{part}
use Rattle.file_write.specs.Writing.{lines_out, ids_out, trailer_out, lines_from, file_length}

-- the file: the order's first bytes, the lines, the ids of what was left, the trailer
unfoldable pub plan_out : List ℕ → Counts → List Line → List ℕ → List ℕ
plan_out order m lines left =
    part order 0 (lines_from m) ++ (lines_out lines m.lines ++ (ids_out left m.unplaced ++ trailer_out m))

-- RULES: Refusals. More than there may be
abbrev pub over_counts : Counts → Bool
over_counts m = ltb most_kinds m.kinds || (ltb most_lines m.lines || ltb most_kinds m.unplaced)

-- or more lines than are lent
abbrev pub over_plan : Counts → List Line → Bool
over_plan m lines = over_counts m || ltb (length lines) m.lines

-- the call's answer, for an order of n bytes: counts over their bounds or over the lines lent, and an order that does not hold its kinds are no plan's
unfoldable pub plan_written : ℕ → Counts → List Line → ℕ → Result ℕ Refusal
plan_written n m lines lent =
    refused_or (when (over_plan m lines) 2) (refused_or (when (ltb n (lines_from m)) 1) (with_room lent (file_length m) (file_length m)))

-- the lent bytes after it: the file and then the old bytes, or all as it was. RULES: Lent memory
unfoldable pub plan_after : List ℕ → Counts → List Line → List ℕ → List ℕ → List ℕ
plan_after order m lines left out =
    cond (is_ok (plan_written (length order) m lines (length out))) (plan_out order m lines left ++ drop (file_length m) out) out

-- a refusal leaves them as they were
pub plan_stays : (order : List ℕ) (m : Counts) (lines : List Line) (left out : List ℕ) (r : Refusal)
    → Err r ≡ plan_written (length order) m lines (length out) → out ≡ plan_after order m lines left out
unfolding plan_after
plan_stays order m lines left out r e = rw (← e)

pub plan_placed : (order : List ℕ) (m : Counts) (lines : List Line) (left out : List ℕ) (n : ℕ)
    → Ok n ≡ plan_written (length order) m lines (length out)
    → plan_out order m lines left ++ drop (file_length m) out ≡ plan_after order m lines left out
unfolding plan_after
plan_placed order m lines left out n e = rw (← e)
