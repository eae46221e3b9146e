-- What the stores of a planned sheet give together, and the answer in each case.
use Rattle.std.specs.Prelude.{ℕ, suc, ◌+◌, ◌≤◌, ◌<◌, ◌≡◌, refl, List, [], ◌∷◌, ◌++◌, get_or, set, drop, ltb, Result}
use Rattle.std.proofs.Common.{sym, ◌∙◌, zero-add, arith, length-append, take-suc, length-take-le}
use Rattle.std.proofs.Math.Bool.{false}
use Rattle.std.proofs.Math.ListN.{length}
use Rattle.std.proofs.Math.Seq.{sets-eq}
use borrow.Author.Tests.{ltb-false}
use Rattle.lists.specs.Bools.{or_left, or_right}
use Rattle.domain.specs.declared.Refusal.{Refusal}
use Rattle.domain.specs.Bounds.{most_kinds, most_lines}
use Rattle.sheet.specs.declared.Counts.{Counts}
use Rattle.sheet.specs.Accepted.{Few}
use Rattle.file_bytes.specs.Bytes.{part}
use Rattle.file_bytes.specs.Stores.{Put, then}
use Rattle.file_write.specs.Writing.{lines_out, ids_out, trailer_out, lines_from, unplaced_from, trailer_from, file_length}
use Rattle.file_write.specs.Stores.{lines_length, ids_length, trailer_length}
use Rattle.sheet.specs.declared.Line.{Line}
use Rattle.file_write.specs.Planned.{plan_out, over_counts, plan_written, plan_after}

-- the counts that there may be
pub record Holds (m : Counts) : Type 0 where
  pub kinds : m.kinds ≤ most_kinds
  pub lines : m.lines ≤ most_lines
  pub left : m.unplaced ≤ most_kinds

pub holds : (m : Counts) → over_counts m ≡ false → Holds m
holds m h =
    let b = or_right (ltb most_kinds m.kinds) _ h in
    record {
      kinds = ltb-false most_kinds m.kinds (or_left (ltb most_kinds m.kinds) _ h);
      lines = ltb-false most_lines m.lines (or_left (ltb most_lines m.lines) _ b);
      left = ltb-false most_kinds m.unplaced (or_right (ltb most_lines m.lines) _ b);
    }

pub plan_few : (m : Counts) → Holds m → Few m
plan_few m h = record { kinds = h.kinds; lines = h.lines; unplaced = omega arith }

-- ---- lengths

pub head_length : (order : List ℕ) (n : ℕ) → n ≤ length order → length (part order 0 n) ≡ n
head_length order n h = length-take-le n order h

pub plan_length : (order : List ℕ) (m : Counts) (lines : List Line) (left : List ℕ) → lines_from m ≤ length order
    → length (plan_out order m lines left) ≡ file_length m
unfolding plan_out
plan_length order m lines left h =
    simp length-append
    (rw (head_length order (lines_from m) h, lines_length lines m.lines, ids_length left m.unplaced, trailer_length m) (omega arith))

-- ---- a byte more of the head
pub head_more : (order : List ℕ) (i : ℕ) → i < length order → part order 0 i ++ (get_or order i 0 ∷ []) ≡ part order 0 (suc i)
head_more order i h = sym (take-suc order i 0 h)

pub head_step : {o o₁ : List ℕ} (order : List ℕ) (i : ℕ) → i < length order → Put o 0 (part order 0 i) o₁
    → Put o 0 (part order 0 (suc i)) (set o₁ i (get_or order i 0))
head_step {o} {o₁} order i h p =
    let q : Put o₁ i (get_or order i 0 ∷ []) (set o₁ i (get_or order i 0)) = record { cells = refl } in
    let e : i ≡ 0 + i = omega arith in
    rw (head_more order i h) at (then p (head_length order i (omega arith)) e q)

-- the parts one after the other are the file
pub plan_put : (order : List ℕ) (m : Counts) (lines : List Line) (left : List ℕ) {o o₁ o₂ o₃ o₄ : List ℕ} → lines_from m ≤ length order
    → Put o 0 (part order 0 (lines_from m)) o₁ → Put o₁ (lines_from m) (lines_out lines m.lines) o₂ → Put o₂ (unplaced_from m) (ids_out left m.unplaced) o₃
    → Put o₃ (trailer_from m) (trailer_out m) o₄ → Put o 0 (plan_out order m lines left) o₄
unfolding plan_out
plan_put order m lines left l head body ids end =
    then head (head_length order (lines_from m) l) (omega arith)
    (then body (lines_length lines m.lines) refl (then ids (ids_length left m.unplaced) refl end))

-- ---- the answer in each case

pub record Told (order : List ℕ) (m : Counts) (lines : List Line) (left out out' : List ℕ) (w : Result ℕ Refusal) : Type 0 where
  pub answer : w ≡ plan_written (length order) m lines (length out)
  pub bytes : out' ≡ plan_after order m lines left out

-- the file stored is the file that the answer tells
pub plan_stored : (order : List ℕ) (m : Counts) (lines : List Line) (left out out' : List ℕ) → lines_from m ≤ length order → file_length m ≤ length out
    → Put out 0 (plan_out order m lines left) out' → out' ≡ plan_out order m lines left ++ drop (file_length m) out
plan_stored order m lines left out out' l r p =
    let k = plan_length order m lines left l in
    p.cells ∙ sets-eq (plan_out order m lines left) out 0 (rw k (omega arith)) ∙ rw (k, zero-add)
