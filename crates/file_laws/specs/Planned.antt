-- A planned sheet written from the order's bytes and the plan's lines is the file of that sheet: `write_plan` answers and leaves what `write_sheet` would.
-- RULES: Load file, Plans
use Rattle.std.specs.Prelude.{ℕ, ◌*◌, ◌≤◌, ◌<◌, ◌≡◌, List, ◌++◌, length, get_or}
use Rattle.std.proofs.Math.Path.{refl, sym, ap}
use Rattle.std.proofs.Common.{◌∙◌, append_assoc, arith}
use Rattle.std.proofs.Math.Bool.{false}
use borrow.Author.Tests.{le-ltb}
use Rattle.lists.specs.Below.{all_same}
use Rattle.domain.specs.Refusal.{refused_or}
use Rattle.domain.specs.Bounds.{most_kinds, most_lines}
use Rattle.sheet.specs.declared.Line.{Line}
use Rattle.sheet.specs.declared.Sheet.{Sheet}
use Rattle.sheet.specs.Sheets.{no_line, line_at, unplaced_at, sheet_refusal}
use Rattle.sheet.specs.Accepted.{accepted}
use Rattle.file_bytes.specs.Bytes.{u32_out, part}
use Rattle.file_bytes.specs.Layout.{fields_out}
use Rattle.file_read.specs.Form.{line_fields, block_bytes, kind_bytes, counts_of}
use Rattle.file_read.specs.Reading.{container_from, kinds_of, sheet_of, refusal_of}
use Rattle.file_write.specs.Writing.{container_out, kinds_out, line_numbers, line_out, lines_out, ids_out, lines_from, file_of, written_of}
use Rattle.file_write.specs.Writing.{bytes_after}
use Rattle.file_write.specs.Planned.{plan_out, over_plan, plan_written, plan_after}
use Rattle.file_laws.specs.Parts.{Bytes, joined}
use Rattle.file_laws.specs.ReadWrite.{accepted_file, block_is, kinds_are}

-- s is the order f with these lines and ids of what was left
pub record Plans (f : List ℕ) (lines : List Line) (left : List ℕ) (s : Sheet) : Type 0 where
  pub kinds_are : s.many.kinds ≡ (counts_of f).kinds
  pub container_is : s.container ≡ (sheet_of f).container
  pub kind_list : s.kinds ≡ (sheet_of f).kinds
  pub line_is : (i : ℕ) → i < s.many.lines → line_numbers (line_at s i) ≡ line_numbers (get_or lines i no_line)
  pub left_is : (i : ℕ) → i < s.many.unplaced → unplaced_at s i ≡ get_or left i 0
  pub left_few : s.many.unplaced ≤ most_kinds
  pub long : s.many.lines ≤ length lines

module _ (f : List ℕ) (bytes : Bytes f) (order : refusal_of f ≡ 0) (lines : List Line) (left : List ℕ) (s : Sheet) (p : Plans f lines left s) where
  -- the container block and the kinds of the sheet are the order's bytes
  head_is : container_out s.container ++ kinds_out s.kinds s.many.kinds ≡ part f 0 (lines_from s.many)
  unfolding sheet_of
  head_is =
      rw (p.kinds_are, p.container_is, p.kind_list)
      (joined f 0 block_bytes block_bytes ((counts_of f).kinds * kind_bytes) (container_out (container_from f))
      (kinds_out (kinds_of f (counts_of f).kinds) (counts_of f).kinds)
      refl (block_is f bytes (accepted_file f order)) (kinds_are f bytes (accepted_file f order)))

  lines_same : lines_out s.lines s.many.lines ≡ lines_out lines s.many.lines
  unfolding lines_out line_out
  lines_same = all_same (λ i. line_out (line_at s i)) (λ i. line_out (get_or lines i no_line)) s.many.lines (λ i l. ap (fields_out line_fields) (p.line_is i l))

  ids_same : ids_out s.unplaced s.many.unplaced ≡ ids_out left s.many.unplaced
  unfolding ids_out
  ids_same = all_same (λ i. u32_out (unplaced_at s i)) (λ i. u32_out (get_or left i 0)) s.many.unplaced (λ i l. ap u32_out (p.left_is i l))

  -- **the file of the planned sheet**
  pub plan_file : file_of s ≡ plan_out f s.many lines left
  unfolding file_of plan_out
  plan_file =
      sym (append_assoc (container_out s.container) (kinds_out s.kinds s.many.kinds) _) ∙ rw (head_is, lines_same, ids_same)

  -- the guards of the call do not hold
  holds : sheet_refusal s ≡ 0 → over_plan s.many lines ≡ false
  holds h =
      let few = (accepted s h).few_of in
      rw (
        le-ltb most_kinds s.many.kinds few.kinds,
        le-ltb most_lines s.many.lines few.lines,
        le-ltb most_kinds s.many.unplaced p.left_few,
        le-ltb (length lines) s.many.lines p.long,
      )

  held : lines_from s.many ≤ length f
  held = let a = (accepted_file f order).shape in rw p.kinds_are (omega (arith, a))

  -- **`write_plan` answers and leaves what `write_sheet` would**
  pub plan_answer_lem : sheet_refusal s ≡ 0 → (lent : ℕ) → plan_written (length f) s.many lines lent ≡ written_of s lent
  unfolding plan_written written_of refused_or
  plan_answer_lem h lent = rw (holds h, le-ltb (length f) (lines_from s.many) held, h)

  pub plan_bytes_lem : sheet_refusal s ≡ 0 → (out : List ℕ) → plan_after f s.many lines left out ≡ bytes_after s out
  unfolding plan_after bytes_after
  plan_bytes_lem h out = rw (plan_answer_lem h (length out), plan_file)
