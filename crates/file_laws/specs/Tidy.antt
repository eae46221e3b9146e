-- A sheet's cells past its counts hold nothing that a file says. `tidy` blanks them; neither the file of a sheet nor its refusal depends on them.
use Rattle.std.specs.Prelude.{ℕ, ◌≤◌, ◌<◌, ◌≡◌, ◌↔◌, List, get_or}
use Rattle.std.proofs.Common.{sym, ap, ◌∙◌, arith}
use Rattle.domain.specs.Bounds.{most_kinds, most_lines, most_unplaced}
use Rattle.domain.specs.Laws.{first_same}
use Rattle.measures.specs.declared.Kind.{Kind}
use Rattle.sheet.specs.declared.Sheet.{Sheet}
use Rattle.sheet.specs.Sheets.{no_kind, no_line, kind_at, line_at, unplaced_at, same_id, kind_fault_in, quantity_of, line_fault_in, sheet_refusal}
use Rattle.sheet.specs.Accepted.{Few}
use Rattle.file_bytes.specs.Bytes.{u32_at, u32_out}
use Rattle.file_read.specs.Form.{lines_start, unplaced_start, counts_of}
use Rattle.lists.specs.Table.{filled, table}
use Rattle.file_read.specs.Reading.{kind_from, line_from, kind_place, line_place, id_place, blank_kind, blank_line}
use Rattle.file_read.specs.Reading.{kinds_by, lines_by, ids_by, kinds_of, lines_of, ids_of, sheet_of}
use Rattle.file_write.specs.Writing.{kind_out, line_out, kinds_out, lines_out, ids_out, file_of}
use Rattle.lists.specs.Below.{any_same, all_same, sum_same}
use Rattle.lists.specs.Table.{table_at, table_past, table_same, table_is}
use Rattle.file_read.specs.Tables.{kinds_at, lines_at, ids_at}
use Rattle.file_laws.specs.Typed.{Typed}

-- the sheet with the cells past its counts blank
unfoldable pub tidy : Sheet → Sheet
unfolding filled
tidy s =
    record {
      many = s.many;
      container = s.container;
      kinds = table blank_kind most_kinds (λ k. kind_at s k) s.many.kinds;
      lines = table blank_line most_lines (λ i. line_at s i) s.many.lines;
      unplaced = table 0 most_unplaced (λ i. unplaced_at s i) s.many.unplaced;
    }

-- those cells are blank already
pub record Blank (s : Sheet) : Type 0 where
  pub kinds : (k : ℕ) → s.many.kinds ≤ k → k < most_kinds → kind_at s k ≡ blank_kind
  pub lines : (i : ℕ) → s.many.lines ≤ i → i < most_lines → line_at s i ≡ blank_line
  pub unplaced : (i : ℕ) → s.many.unplaced ≤ i → i < most_unplaced → unplaced_at s i ≡ 0

-- ---- the records that count stay

module _ (s : Sheet) (few : Few s.many) where
  pub tidy_kind : (k : ℕ) → k < s.many.kinds → kind_at (tidy s) k ≡ kind_at s k
  unfolding tidy
  tidy_kind k l = table_at blank_kind most_kinds (λ j. kind_at s j) s.many.kinds k no_kind few.kinds l

  pub tidy_line : (i : ℕ) → i < s.many.lines → line_at (tidy s) i ≡ line_at s i
  unfolding tidy
  tidy_line i l = table_at blank_line most_lines (λ j. line_at s j) s.many.lines i no_line few.lines l

  pub tidy_id : (i : ℕ) → i < s.many.unplaced → unplaced_at (tidy s) i ≡ unplaced_at s i
  unfolding tidy
  tidy_id i l = table_at 0 most_unplaced (λ j. unplaced_at s j) s.many.unplaced i 0 few.unplaced l

-- ---- blank cells are what `tidy` asks for, and no more

pub tidy_blank : (s : Sheet) → Typed s → Few s.many → Blank s → tidy s ≡ s
unfolding tidy
tidy_blank s t few b =
    rw (
      table_is blank_kind most_kinds no_kind s.kinds s.many.kinds few.kinds t.kinds b.kinds,
      table_is blank_line most_lines no_line s.lines s.many.lines few.lines t.lines b.lines,
      table_is 0 most_unplaced 0 s.unplaced s.many.unplaced few.unplaced t.unplaced b.unplaced,
    )

pub blank_tidy : (s : Sheet) → tidy s ≡ s → Blank s
unfolding tidy
blank_tidy s e =
    record {
      kinds = λ k m l. ap (λ (u : Sheet). kind_at u k) (sym e) ∙ table_past blank_kind most_kinds (λ j. kind_at s j) s.many.kinds k no_kind m l;
      lines = λ i m l. ap (λ (u : Sheet). line_at u i) (sym e) ∙ table_past blank_line most_lines (λ j. line_at s j) s.many.lines i no_line m l;
      unplaced = λ i m l. ap (λ (u : Sheet). unplaced_at u i) (sym e) ∙ table_past 0 most_unplaced (λ j. unplaced_at s j) s.many.unplaced i 0 m l;
    }

-- **`tidy` leaves a sheet as it is exactly where the cells past its counts are blank**
pub tidy_exactly : (s : Sheet) → Typed s → Few s.many → tidy s ≡ s ↔ Blank s
tidy_exactly s t few = (blank_tidy s, tidy_blank s t few)

-- **what a file says is tidy**
pub read_tidy : (f : List ℕ) → Few (counts_of f) → tidy (sheet_of f) ≡ sheet_of f
unfolding tidy sheet_of kinds_by lines_by ids_by
read_tidy f few =
    let n = counts_of f in
    rw (
      table_same blank_kind most_kinds (λ k. get_or (kinds_of f n.kinds) k no_kind) (λ k. kind_from f (kind_place k)) n.kinds
          (λ k l. kinds_at f n.kinds k few.kinds l),
      table_same blank_line most_lines (λ i. get_or (lines_of f (lines_start f) n.lines) i no_line) (λ i. line_from f (line_place f i)) n.lines
          (λ i l. lines_at f (lines_start f) n.lines i few.lines l),
      table_same 0 most_unplaced (λ i. get_or (ids_of f (unplaced_start f) n.unplaced) i 0) (λ i. u32_at f (id_place f i)) n.unplaced
          (λ i l. ids_at f (unplaced_start f) n.unplaced i few.unplaced l),
    )

-- ---- a sheet is written, and refused, by the records that count

pub tidy_file : (s : Sheet) → Few s.many → file_of (tidy s) ≡ file_of s
unfolding file_of tidy kinds_out lines_out ids_out
tidy_file s few =
    rw (
      all_same (λ k. kind_out (kind_at (tidy s) k)) (λ k. kind_out (kind_at s k)) s.many.kinds (λ k l. ap kind_out (tidy_kind s few k l)),
      all_same (λ i. line_out (line_at (tidy s) i)) (λ i. line_out (line_at s i)) s.many.lines (λ i l. ap line_out (tidy_line s few i l)),
      all_same (λ i. u32_out (unplaced_at (tidy s) i)) (λ i. u32_out (unplaced_at s i)) s.many.unplaced (λ i l. ap u32_out (tidy_id s few i l)),
    )

-- a fold sees only the first n, and so does the fault of a kind, which looks at earlier ones
pub fault_same : (a b : List Kind) (n : ℕ) → ((k : ℕ) → k < n → get_or a k no_kind ≡ get_or b k no_kind)
    → (k : ℕ) → k < n → kind_fault_in a k ≡ kind_fault_in b k
unfolding kind_fault_in same_id
fault_same a b n e k l = rw (any_same (same_id a k) (same_id b k) k (λ j m. rw (e j (omega arith), e k l)), e k l)

pub tidy_refusal : (s : Sheet) → Few s.many → sheet_refusal (tidy s) ≡ sheet_refusal s
unfolding sheet_refusal tidy quantity_of line_fault_in
tidy_refusal s few =
    let t = tidy s in
    rw (
      first_same (kind_fault_in t.kinds) (kind_fault_in s.kinds) s.many.kinds (fault_same t.kinds s.kinds s.many.kinds (tidy_kind s few)),
      sum_same (quantity_of t.kinds) (quantity_of s.kinds) s.many.kinds (λ k l. ap (λ (u : Kind). u.quantity) (tidy_kind s few k l)),
      first_same (line_fault_in t.lines) (line_fault_in s.lines) s.many.lines (λ i l. rw (tidy_line s few i l)),
    )
