-- The counts as they were when a sheet had at most 256 boxes and lines, held against today's. RULES: Numbers that bound it
use Rattle.std.specs.Prelude.{ℕ, ◌≡◌, true, ◌||◌, List, ltb}
use Rattle.std.proofs.Common.{sym, ap, ◌∙◌, arith}
use Rattle.domain.specs.Bounds.{most_kinds, most_unplaced}
use Rattle.domain.specs.Refusals.{when}
use Rattle.sheet.specs.Sheets.{Most, most_now, over_count_by}
use Rattle.sheet.specs.Alike.{Alike}
use Rattle.file_read.specs.Form.{right_shape, counts_of}
use Rattle.file_read.specs.Reading.{sheet_by, refusal_by, sheet_of, refusal_of}
use Rattle.file_write.specs.Writing.{file_of}
use Rattle.file_laws.specs.Counts.{Within, sheet_now, refusal_now, reads_alike, written_same, boxes_by, longer_gets_2, fewer_decides}

abbrev pub most_before : Most
most_before = record { kinds = most_kinds; boxes = 256; lines = 256; unplaced = most_unplaced }

pub before_within : Within most_before most_now
before_within = record { kinds = omega arith; boxes = omega arith; lines = omega arith; unplaced = omega arith }

module _ (f : List ℕ) where
  -- **a file that was accepted then reads the same**; that it is accepted stands in proofs/Before.antt
  pub reads_since : refusal_by most_before f ≡ 0 → Alike (sheet_by most_before f) (sheet_of f)
  reads_since h = rw (sheet_now f) (reads_alike most_before most_now before_within f h)

  -- **and its sheet is written as the same bytes**
  pub written_since : refusal_by most_before f ≡ 0 → file_of (sheet_by most_before f) ≡ file_of (sheet_of f)
  written_since h = written_same most_before most_now before_within f h ∙ ap file_of (sym (sheet_now f))

  -- **one of right shape with more records got 2 then, whatever else is wrong with it**
  pub longer_got_2 : right_shape f ≡ true → over_count_by most_before (counts_of f) ≡ true → refusal_by most_before f ≡ 2
  longer_got_2 h k = longer_gets_2 most_before f h k

  -- **one that is accepted now got 2 then where it has more records or boxes, and else was accepted**
  pub decided_before : refusal_of f ≡ 0
      → refusal_by most_before f ≡ when (over_count_by most_before (counts_of f) || ltb most_before.boxes (boxes_by most_now f)) 2
  decided_before h = fewer_decides most_before most_now f (sym (refusal_now f) ∙ h)
