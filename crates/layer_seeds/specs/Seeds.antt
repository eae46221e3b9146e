-- RULES: Second placer: items. The orientation of each instance of a list in a sheet's lines (packing_utils.rs, `seed_orientations`).
use Rattle.std.specs.Prelude.{◌≡◌, refl, Bool, true, false, cond, ◌&&◌, List, ℕ, zero, suc, ◌+◌, ◌*◌, ◌<◌, ◌≤◌, eqb, ltb, length, get_or, Result, Ok, Err}
use Rattle.std.proofs.Common.{arith}
use borrow.Author.Tests.{ne_eqb, lt-ltb, le-ltb}
use Rattle.domain.specs.Bounds.{most_instances}
use Rattle.domain.specs.declared.Refusal.{Refusal}
use Rattle.domain.specs.declared.Refusal.TheVariants.{Shape, Count}
use Rattle.domain.specs.Refusals.{when, or_else}
use Rattle.domain.specs.Laws.{or_else_first}
use Rattle.domain.specs.Refusal.{refusal_by, answer_with, answer_of, refused_or, with_room, or_refuses, room_refuses, room_found, room_enough}
use Rattle.lists.specs.Below.{any_below, any_none}
use Rattle.lists.specs.Table.{filled}
use Rattle.sheet.specs.declared.Line.{Line}
use Rattle.sheet.specs.declared.Sheet.{Sheet}
use Rattle.sheet.specs.Sheets.{no_line, kind_at, sheet_refusal}
use Rattle.file_read.specs.Form.{right_shape, lines_start, counts_of}
use Rattle.file_read.specs.Reading.{sheet_of, refusal_of}
use Rattle.file_read.specs.Refusal.{shape_refused, sheet_decides, sheet_sound}
use Rattle.file_read.specs.Records.{Readable}
use Rattle.file_accept.specs.declared.Accepted.{Accepted}
use Rattle.file_accept.specs.Accept.{Taken, taken_as, accept_of}
use Rattle.layer_instances.specs.Records.{records_in, is_stranger, stranger_not}
use Rattle.layer_instances.specs.Instances.{over_number, some_number, lacks}

-- the line places this box
abbrev pub is_of : Line → ℕ → ℕ → Bool
is_of l id i = eqb l.id id && eqb l.instance i

-- the orientation in the last of the first n lines that place the box; 0 where none does
unfoldable pub seed_of : List Line → ℕ → ℕ → ℕ → ℕ
seed_of lines zero id i = 0
seed_of lines (suc n) id i = cond (is_of (get_or lines n no_line) id i) (get_or lines n no_line).orientation (seed_of lines n id i)

-- the seed of record j: that of the box of kind and instance that it names
unfoldable pub seed_at : Sheet → List ℕ → ℕ → ℕ
seed_at s records j = seed_of s.lines s.many.lines (kind_at s (get_or records (j * 3) 0)).id (get_or records (j * 3 + 1) 0)

-- in this order: 2 for too many records, what the sheet gets, 9 for a record of no kind of it, 6 for too few cells. RULES: Refusals.
unfoldable pub seed_refusal : Sheet → List ℕ → ℕ → ℕ
seed_refusal s records room =
    or_else (when (ltb most_instances (records_in records)) 2)
    (or_else (sheet_refusal s)
    (or_else (when (any_below (is_stranger records s.many.kinds) (records_in records)) 9) (when (ltb room (records_in records)) 6)))

-- how many seeds there are, or the refusal; 6 tells their number too
unfoldable pub seeded_of : Sheet → List ℕ → ℕ → Result ℕ Refusal
seeded_of s records room =
    refused_or (when (ltb most_instances (records_in records)) 2)
    (refused_or (sheet_refusal s)
    (refused_or (when (any_below (is_stranger records s.many.kinds) (records_in records)) 9)
    (with_room room (records_in records) (records_in records))))

-- RULES: Lent memory. The seeds in the first cells, the others as they were; a refusal changes none.
unfoldable pub seeds_after : Sheet → List ℕ → List ℕ → List ℕ
seeds_after s records o = cond (eqb (seed_refusal s records (length o)) 0) (filled o (seed_at s records) (records_in records)) o

-- ---- by the lines of a load file: 1 for its shape, or what the sheet gets that its bytes mean
unfoldable pub seeded_in : List ℕ → List ℕ → ℕ → Result ℕ Refusal
seeded_in f records room = cond (right_shape f) (seeded_of (sheet_of f) records room) (Err Shape)

unfoldable pub seeds_in : List ℕ → List ℕ → List ℕ → List ℕ
seeds_in f records o = cond (right_shape f) (seeds_after (sheet_of f) records o) o

-- ---- what a call ends with

pub record Ended (f records o : List ℕ) (b : Result ℕ Refusal) (w : List ℕ) : Type 0 where
  pub answer_is : b ≡ seeded_in f records (length o)
  pub cells_are : w ≡ seeds_in f records o

-- a file of the right shape, and a refusal of its sheet
ended_right : (f records o : List ℕ) (r : Refusal) → right_shape f ≡ true → Err r ≡ seeded_of (sheet_of f) records (length o)
    → (seed_refusal (sheet_of f) records (length o) ≡ 0 → ⊥) → Ended f records o (Err r) o
unfolding seeded_in seeds_in seeds_after
ended_right f records o r shape e some =
    record { answer_is = rw shape e; cells_are = rw (shape, ne_eqb (seed_refusal (sheet_of f) records (length o)) 0 some) }

ended_wrong : (f records o : List ℕ) → right_shape f ≡ false → Ended f records o (Err Shape) o
unfolding seeded_in seeds_in
ended_wrong f records o shape = record { answer_is = rw shape; cells_are = rw shape }

pub ended_over : (f records o : List ℕ) → most_instances < records_in records → Ended f records o (Err (refusal_by (over_number f) 0)) o
unfolding over_number seed_refusal or_else seeded_of refused_or
ended_over f records o h = go (right_shape f) refl
  where
    go : (b : Bool) → right_shape f ≡ b → Ended f records o (Err (refusal_by (cond b 2 1) 0)) o
    go true e =
        let l = lt-ltb most_instances (records_in records) h in
        ended_right f records o Count e (rw l) (rw l (λ z. omega arith))
    go false e = ended_wrong f records o e

module _ (f records o : List ℕ) (few : records_in records ≤ most_instances) where
  pub ended_refused : (r : Refusal) → Err r ≡ accept_of f → Ended f records o (Err r) o
  unfolding seed_refusal or_else seeded_of refused_or answer_with
  ended_refused r e = go (right_shape f) refl
    where
      l : ltb most_instances (records_in records) ≡ false
      l = le-ltb most_instances (records_in records) few

      some : refusal_of f ≡ 0 → ⊥
      some = some_number (refusal_of f) 0 (taken_as f) r e

      first : (n : ℕ) (y : ℕ) → (n ≡ 0 → ⊥) → or_else n y ≡ 0 → ⊥
      first n y s z = s (or_else_first n y z)

      wrong_is : (n : Refusal) → Err n ≡ answer_of 1 (taken_as f) → n ≡ Shape
      wrong_is n h = cc

      go : (b : Bool) → right_shape f ≡ b → Ended f records o (Err r) o
      go true s =
          let d : refusal_of f ≡ sheet_refusal (sheet_of f) = sheet_decides f s in
          ended_right f records o r s
          (rw l (or_refuses (sheet_refusal (sheet_of f)) (taken_as f) _ r (rw d at e)))
          (rw l (first (sheet_refusal (sheet_of f)) _ (rw d at some)))
      go false s = rw (wrong_is r (rw (shape_refused f s) at e)) (ended_wrong f records o s)

  module _ (z : refusal_of f ≡ 0) (shape : right_shape f ≡ true) where
    pub ended_strange : (r : Refusal) → Err r ≡ answer_of (when (any_below (is_stranger records (sheet_of f).many.kinds) (records_in records)) 9) (tt {0})
        → Ended f records o (Err r) o
    unfolding seed_refusal or_else seeded_of refused_or
    ended_strange r e =
        let strange = any_below (is_stranger records (sheet_of f).many.kinds) (records_in records) in
        let l = le-ltb most_instances (records_in records) few in
        let some = some_number (when strange 9) 0 (tt {0}) r e in
        ended_right f records o r shape
        (rw (l, sheet_sound f z) (or_refuses (when strange 9) (tt {0}) _ r e))
        (rw (l, sheet_sound f z) (λ h. some (or_else_first (when strange 9) _ h)))

    module _ (known : any_below (is_stranger records (sheet_of f).many.kinds) (records_in records) ≡ false) where
      pub ended_short : (r : Refusal) → Err r ≡ answer_with (when (ltb (length o) (records_in records)) 6) (records_in records) (tt {0})
          → Ended f records o (Err r) o
      unfolding seed_refusal or_else seeded_of refused_or
      ended_short r h =
          let l = le-ltb most_instances (records_in records) few in
          ended_right f records o r shape
          (rw (l, sheet_sound f z, known) (room_refuses (length o) (records_in records) (records_in records) r h))
          (rw (l, sheet_sound f z, known, lacks (ltb (length o) (records_in records)) (records_in records) (tt {0}) r h) (λ e. omega arith))

      pub ended_written : Ok (tt {0}) ≡ answer_with (when (ltb (length o) (records_in records)) 6) (records_in records) (tt {0})
          → Ended f records o (Ok (records_in records)) (filled o (seed_at (sheet_of f) records) (records_in records))
      unfolding seed_refusal or_else seeded_in seeds_in seeded_of seeds_after refused_or
      ended_written h =
          let l = le-ltb most_instances (records_in records) few in
          let roomy = le-ltb (length o) (records_in records) (room_enough (length o) (records_in records) h) in
          record {
            answer_is = rw (shape, l, sheet_sound f z, known) (room_found (length o) (records_in records) (records_in records) h);
            cells_are = rw (shape, l, sheet_sound f z, known, roomy);
          }

-- ---- what the loop over n records relies on
pub record Fit (f : List ℕ) (start lines : ℕ) (records : List ℕ) (room n : ℕ) : Type 0 where
  pub can_read : Readable f
  pub start_is : start ≡ lines_start f
  pub lines_are : lines ≡ (counts_of f).lines
  pub whole : n * 3 ≤ length records
  pub roomy : n ≤ room
  pub of_kind : (j : ℕ) → j < n → get_or records (j * 3) 0 < (counts_of f).kinds

pub fit : (f records : List ℕ) (room : ℕ) (a : Accepted) → Taken f a
    → any_below (is_stranger records a.kinds) (records_in records) ≡ false → records_in records ≤ room
    → Fit f a.start a.lines records room (records_in records)
fit f records room a t known roomy =
    record {
      can_read = t.can_read;
      start_is = t.start_is;
      lines_are = t.lines_are;
      whole = omega arith;
      roomy = roomy;
      of_kind =
          λ j l.
          rw (← t.kinds_are) (stranger_not records a.kinds j (any_none (is_stranger records a.kinds) (records_in records) j known l));
    }
