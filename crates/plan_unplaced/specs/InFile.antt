-- The kinds that bytes say, which for an accepted file are those of its sheet; and the unplaced list of a file.
use Rattle.std.specs.Prelude.{◌≡◌, refl, List, ℕ, zero, suc, ◌<◌, ◌≤◌, get_or, replicate, Result}
use Rattle.std.proofs.Common.{◌∙◌, ap}
use Rattle.lists.specs.Table.{table, table_at, table_length, table_same, filled}
use Rattle.domain.specs.Bounds.{most_kinds, most_lines}
use Rattle.domain.specs.declared.Refusal.{Refusal}
use Rattle.domain.specs.Refusals.{when}
use Rattle.domain.specs.Refusal.{answer_of, answer_with, refused_or}
use Rattle.measures.specs.declared.Kind.{Kind}
use Rattle.sheet.specs.declared.Counts.{Counts}
use Rattle.sheet.specs.declared.Line.{Line}
use Rattle.sheet.specs.declared.Sheet.{Sheet}
use Rattle.sheet.specs.Sheets.{no_kind, no_line, blank_kind, blank_line, line_at}
use Rattle.file_read.specs.Form.{counts_of}
use Rattle.file_read.specs.Reading.{kind_from, kind_place, kinds_by, sheet_of, refusal_of}
use Rattle.file_read.specs.Tables.{kinds_at}
use Rattle.file_read.specs.Records.{kind_in, Readable, bounds, kind_is, many_is}
use Rattle.file_accept.specs.Accept.{readable}
use Rattle.plan_unplaced.specs.declared.Left.{Left}
use Rattle.plan_unplaced.specs.Left.{over_bound, left_of, left_of_sheet, left_long, none_over, unplaced_of}
use Rattle.plan_unplaced.specs.Same.{same_lines}

-- the first m kinds, blank past them
abbrev pub kinds_in : List ℕ → ℕ → List Kind
kinds_in f m = table blank_kind most_kinds (λ k. kind_in f k) m

pub kind_in_at : (f : List ℕ) (m k : ℕ) → m ≤ most_kinds → k < m → get_or (kinds_in f m) k no_kind ≡ kind_in f k
kind_in_at f m k few l = table_at blank_kind most_kinds (λ j. kind_in f j) m k no_kind few l

pub kinds_in_is : (f : List ℕ) → Readable f → kinds_in f (counts_of f).kinds ≡ (sheet_of f).kinds
unfolding sheet_of kinds_by
kinds_in_is f r =
    table_same blank_kind most_kinds (λ k. kind_in f k) (λ k. kind_from f (kind_place k)) (counts_of f).kinds
    (λ k l. kind_is f k r l ∙ kinds_at f (counts_of f).kinds k (bounds f r).kinds l)

-- RULES: Unplaced list. The unplaced list of a load file by its own lines, or the refusal that reading it gets
unfoldable pub file_unplaced : List ℕ → Result Left Refusal
file_unplaced f = refused_or (refusal_of f) (unplaced_of (sheet_of f))

-- ---- laws

pub unplaced_is : (f : List ℕ) → refusal_of f ≡ 0 → (m n : ℕ) → Readable f → m ≡ (counts_of f).kinds → n ≡ (counts_of f).lines → (lines : List Line)
    → lines ≡ filled (replicate most_lines blank_line) (line_at (sheet_of f)) n → left_of (kinds_in f m) m lines n ≡ file_unplaced f
unfolding file_unplaced refused_or unplaced_of
unplaced_is f z m n r kinds_are lines_are lines e =
    let few : n ≤ most_lines = rw lines_are (bounds f r).lines in
    let same =
    same_lines lines (sheet_of f).lines n (λ j l. rw e (table_at blank_line most_lines (line_at (sheet_of f)) n j no_line few l)) (kinds_in f m) m in
    left_long (kinds_in f m) m lines n (rw (e, table_length blank_line most_lines (line_at (sheet_of f)) n) few)
    ∙ ap (λ (l : Left). answer_of (when (over_bound m n) 2) l) same
    ∙ rw (z, kinds_are, lines_are, kinds_in_is f r, ← (many_is f)) refl

-- a file that is not refused says no counts over their bounds, so that its list is refused by what the file is, and by nothing else
pub file_left : (f : List ℕ) → file_unplaced f ≡ answer_of (refusal_of f) (left_of_sheet (sheet_of f))
unfolding file_unplaced unplaced_of refused_or answer_with
file_left f = go (refusal_of f) refl
  where
    s : Sheet
    s = sheet_of f

    go : (n : ℕ) → refusal_of f ≡ n
        → refused_or n (answer_of (when (over_bound s.many.kinds s.many.lines) 2) (left_of_sheet s)) ≡ answer_of n (left_of_sheet s)
    go (suc n) e = refl
    go zero e =
        let few = bounds f (readable f e) in
        let m = ap (λ (m : Counts). over_bound m.kinds m.lines) (many_is f) in
        rw (← m, none_over (counts_of f).kinds (counts_of f).lines few.kinds few.lines) refl
