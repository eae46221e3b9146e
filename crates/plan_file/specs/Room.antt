-- The answer for a plan whose sheet is accepted: want of room is the one refusal. That of the plan calls stands in proofs/Room.antt.
use Rattle.std.specs.Prelude.{◌≡◌, refl, Bool, true, false, cond, List, ℕ, leb, Result, Ok, Err}
use Rattle.domain.specs.declared.Refusal.{Refusal}
use Rattle.domain.specs.declared.Refusal.TheVariants.{Room}
use Rattle.domain.specs.Refusal.{refused_or}
use Rattle.sheet.specs.declared.Sheet.{Sheet}
use Rattle.sheet.specs.Sheets.{sheet_refusal}
use Rattle.file_read.specs.Reading.{sheet_of, refusal_of}
use Rattle.file_read.specs.Refusal.{sheet_sound}
use Rattle.file_write.specs.Writing.{file_length, written_of}
use Rattle.plan_sheet.specs.Plans.{Plan}
use Rattle.plan_sheet.specs.Planned.{planned_sheet}
use Rattle.answer_word.specs.Answer.{answer_of, word_told}
use Rattle.plan_file.specs.Plan.{plan_answer}
use Rattle.plan_laws.specs.Accepted.{Taken}

-- the length of the planned sheet's file, with 6 where there is less room
abbrev pub length_or_six : ℕ → ℕ → ℕ
length_or_six length room = cond (leb length room) (answer_of 0 length) (answer_of 6 length)

abbrev pub planned_length : Sheet → Plan → ℕ
planned_length order plan = file_length (planned_sheet order plan).many

pub read_accepted : (file : List ℕ) → refusal_of file ≡ 0 → sheet_refusal (sheet_of file) ≡ 0
read_accepted file h = sheet_sound file h

pub plan_answer_lem : (order : Sheet) (plan : Plan) (room : ℕ) → Taken order plan → plan_answer order plan room ≡ length_or_six (planned_length order plan) room
unfolding plan_answer written_of refused_or
plan_answer_lem order plan room t = rw (t.sheet_is, t.sheet_accepted) (go (leb (planned_length order plan) room))
  where
    go : (b : Bool)
        → word_told (cond {A = Result ℕ Refusal} b (Ok (planned_length order plan)) (Err (Room (planned_length order plan))))
        ≡ cond b (answer_of 0 (planned_length order plan)) (answer_of 6 (planned_length order plan))
    go true = refl
    go false = refl
