-- The refusal of a file is by its shape, or that of the sheet that it says.
use Rattle.std.specs.Prelude.{◌≡◌, Bool, true, false, not, List, ℕ, Option, Some, None, Ok, Err}
use Rattle.std.specs.Option.{ok_or}
use Rattle.std.proofs.Common.{sym, ◌∙◌}
use Rattle.domain.specs.declared.Refusal.{Refusal}
use Rattle.domain.specs.declared.Refusal.TheVariants.{Shape}
use Rattle.domain.specs.Refusal.{answer_with, answer_of, refused_as, no_refusal}
use Rattle.domain.specs.Refusals.{when, or_else}
use Rattle.domain.specs.Laws.{or_else_second, when_none}
use Rattle.sheet.specs.Sheets.{over_count, sheet_refusal}
use Rattle.file_read.specs.Form.{right_shape, counts_of}
use Rattle.file_read.specs.Reading.{sheet_of, refusal_of}
use Rattle.file_read.specs.declared.records.Sections.{Sections}
use Rattle.file_read.specs.Records.{sections_of, Right, wrong_says, Readable}

pub shape_refused : (f : List ℕ) → right_shape f ≡ false → refusal_of f ≡ 1
unfolding refusal_of or_else
shape_refused f h = rw h

-- past the shape the sheet decides
pub sheet_decides : (f : List ℕ) → right_shape f ≡ true → refusal_of f ≡ sheet_refusal (sheet_of f)
unfolding refusal_of or_else sheet_refusal sheet_of
sheet_decides f h = rw h

-- the sheet of a file that is not refused is not refused
pub sheet_sound : (f : List ℕ) → refusal_of f ≡ 0 → sheet_refusal (sheet_of f) ≡ 0
unfolding refusal_of sheet_refusal sheet_of
sheet_sound f h = or_else_second (when (not (right_shape f)) 1) (sheet_refusal (sheet_of f)) h

pub count_refused : (f : List ℕ) → over_count (counts_of f) ≡ true → sheet_refusal (sheet_of f) ≡ 2
unfolding sheet_refusal sheet_of or_else counts_of
count_refused f h = rw h

-- ---- what a call answers that asks for the sections first, then tests the counts

-- a file without sections is refused by its shape
pub asked_wrong : {A : Type 0} (f : List ℕ) (o : Option Sections) (r : Refusal) (v : A) → o ≡ sections_of f → Err r ≡ ok_or o Shape
    → Err r ≡ answer_of (refusal_of f) v
unfolding answer_with
asked_wrong f None r v e h = let k : r ≡ Shape = cc in rw (shape_refused f (wrong_says f e)) (rw k)
asked_wrong f (Some s) r v e h = absurd (cc)

-- and of one that has them, more than there may be are refused by 2
pub asked_over : {A : Type 0} (f : List ℕ) (s : Sections) (b : Bool) (r : Refusal) (v : A) → Right f s → b ≡ over_count s.many
    → Err r ≡ answer_of (when b 2) (tt {0}) → Err r ≡ answer_of (refusal_of f) v
unfolding answer_with
asked_over f s true r v k e h =
    let g : over_count s.many ≡ true = sym e in
    let o : over_count (counts_of f) ≡ true = rw k.many_are at g in
    rw (sheet_decides f k.shape ∙ count_refused f o) (refused_as 2 0 (tt {0}) v r h)
asked_over f s false r v k e h = absurd (cc)

-- else it can be read
pub asked_few : (f : List ℕ) (s : Sections) (b : Bool) → Right f s → b ≡ over_count s.many → Ok (tt {0}) ≡ answer_of (when b 2) (tt {0}) → Readable f
asked_few f s b k e h =
    record { shape = k.shape; counts_right = rw k.many_are at (sym e ∙ when_none b 1 (no_refusal (when b 2) 0 (tt {0}) (tt {0}) h)) }
