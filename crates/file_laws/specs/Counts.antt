-- The counts that bound a sheet as numbers of any size: with larger ones a file that was accepted is accepted still, reads the same, and is written the same.
use Rattle.std.specs.Prelude.{ℕ, ◌<◌, ◌≤◌, ◌≡◌, refl, Bool, true, false, not, ◌||◌, List, ltb}
use Rattle.std.proofs.Common.{sym, ◌∙◌, arith, ltb-false, le-ltb, lt-ltb}
use Rattle.std.proofs.Math.Path.{ap}
use Rattle.lists.specs.Bools.{or_left, or_right, not_true_of}
use Rattle.lists.specs.Below.{sum_below, all_same, sum_same}
use Rattle.lists.specs.Table.{table_at}
use Rattle.domain.specs.Refusals.{when, or_else, first_below}
use Rattle.domain.specs.Laws.{or_else_first, or_else_second, when_none}
use Rattle.measures.specs.declared.Kind.{Kind}
use Rattle.measures.specs.Faults.{container_fault}
use Rattle.sheet.specs.declared.Counts.{Counts}
use Rattle.sheet.specs.declared.Line.{Line}
use Rattle.sheet.specs.declared.Sheet.{Sheet}
use Rattle.sheet.specs.Sheets.{Most, most_now, no_kind, no_line, kind_at, line_at, unplaced_at, over_count_by, kind_fault_in, quantity_of, line_fault_in}
use Rattle.sheet.specs.Sheets.{sheet_refusal_by}
use Rattle.sheet.specs.Alike.{Alike}
use Rattle.file_bytes.specs.Bytes.{u32_at, u32_out}
use Rattle.file_read.specs.Form.{right_shape, counts_of}
use Rattle.file_read.specs.Reading.{kind_from, line_from, kind_place, line_place, id_place, blank_kind, blank_line, kinds_by, lines_by, ids_by}
use Rattle.file_read.specs.Reading.{container_from, sheet_by, refusal_by, sheet_of, refusal_of}
use Rattle.file_write.specs.Writing.{kind_out, line_out, kinds_out, lines_out, ids_out, file_of}
use Rattle.domain.specs.Laws.{first_same}
use Rattle.file_laws.specs.Tidy.{fault_same}

-- each count of the one is at most that of the other
pub record Within (m n : Most) : Type 0 where
  pub kinds : m.kinds ≤ n.kinds
  pub boxes : m.boxes ≤ n.boxes
  pub lines : m.lines ≤ n.lines
  pub unplaced : m.unplaced ≤ n.unplaced

-- ---- records that are no more than the counts allow

record Fits (b : Most) (c : Counts) : Type 0 where
  pub kinds : c.kinds ≤ b.kinds
  pub lines : c.lines ≤ b.lines
  pub unplaced : c.unplaced ≤ b.unplaced

-- so where the test for 2 does not hold
fits : (b : Most) (c : Counts) → over_count_by b c ≡ false → Fits b c
fits b c h =
    let r = or_right (ltb b.kinds c.kinds) _ h in
    record {
      kinds = ltb-false b.kinds c.kinds (or_left (ltb b.kinds c.kinds) _ h);
      lines = ltb-false b.lines c.lines (or_left (ltb b.lines c.lines) _ r);
      unplaced = ltb-false b.unplaced c.unplaced (or_right (ltb b.lines c.lines) _ r);
    }

-- and only there
not_over : (b : Most) (c : Counts) → Fits b c → over_count_by b c ≡ false
not_over b c h =
    rw (le-ltb b.kinds c.kinds h.kinds, le-ltb b.lines c.lines h.lines, le-ltb b.unplaced c.unplaced h.unplaced)

-- what fits smaller counts fits larger ones
more_fit : (m n : Most) (c : Counts) → Within m n → Fits m c → Fits n c
more_fit m n c w h = record { kinds = omega arith; lines = omega arith; unplaced = omega arith }

-- ---- sheets that are alike

module _ (s t : Sheet) (a : Alike s t) where
  -- **are written as the same bytes**
  pub alike_written : file_of s ≡ file_of t
  unfolding file_of kinds_out lines_out ids_out
  alike_written =
      rw (
        all_same (λ k. kind_out (kind_at s k)) (λ k. kind_out (kind_at t k)) s.many.kinds (λ k l. ap kind_out (a.kind_is k l)),
        all_same (λ i. line_out (line_at s i)) (λ i. line_out (line_at t i)) s.many.lines (λ i l. ap line_out (a.line_is i l)),
        all_same (λ i. u32_out (unplaced_at s i)) (λ i. u32_out (unplaced_at t i)) s.many.unplaced (λ i l. ap u32_out (a.id_is i l)),
        a.many_is,
        a.container_is,
      )

  -- **and get the same refusal**
  pub alike_refused : (b : Most) → sheet_refusal_by b s ≡ sheet_refusal_by b t
  unfolding quantity_of line_fault_in
  alike_refused b =
      rw (
        first_same (kind_fault_in s.kinds) (kind_fault_in t.kinds) s.many.kinds (fault_same s.kinds t.kinds s.many.kinds a.kind_is),
        sum_same (quantity_of s.kinds) (quantity_of t.kinds) s.many.kinds (λ k l. ap (λ (u : Kind). u.quantity) (a.kind_is k l)),
        first_same (line_fault_in s.lines) (line_fault_in t.lines) s.many.lines (λ i l. rw (a.line_is i l)),
        a.many_is,
        a.container_is,
      )

-- ---- a sheet that is not refused: what each test said

record Passed (b : Most) (s : Sheet) : Type 0 where
  pub fit : Fits b s.many
  pub container_right : container_fault s.container ≡ false
  pub kinds_right : first_below (kind_fault_in s.kinds) s.many.kinds ≡ 0
  pub boxes_few : sum_below (quantity_of s.kinds) s.many.kinds ≤ b.boxes
  pub lines_right : first_below (line_fault_in s.lines) s.many.lines ≡ 0

-- a refusal of 0 says that each test passed
passed : (b : Most) (s : Sheet) → sheet_refusal_by b s ≡ 0 → Passed b s
passed b s h =
    let over = over_count_by b s.many in
    let wrong = container_fault s.container in
    let total = sum_below (quantity_of s.kinds) s.many.kinds in
    let h₁ = or_else_second (when over 2) _ h in
    let h₂ = or_else_second (when wrong 3) _ h₁ in
    let h₃ = or_else_second (first_below (kind_fault_in s.kinds) s.many.kinds) _ h₂ in
    record {
      fit = fits b s.many (when_none over 1 (or_else_first (when over 2) _ h));
      container_right = when_none wrong 2 (or_else_first (when wrong 3) _ h₁);
      kinds_right = or_else_first (first_below (kind_fault_in s.kinds) s.many.kinds) _ h₂;
      boxes_few = ltb-false b.boxes total (when_none (ltb b.boxes total) 1 (or_else_first (when (ltb b.boxes total) 2) _ h₃));
      lines_right = or_else_second (when (ltb b.boxes total) 2) _ h₃;
    }

-- with other counts it is refused by these alone
by_counts : (m n : Most) (s : Sheet) → Passed n s
    → sheet_refusal_by m s ≡ when (over_count_by m s.many || ltb m.boxes (sum_below (quantity_of s.kinds) s.many.kinds)) 2
unfolding or_else
by_counts m n s p =
    rw (p.container_right, p.kinds_right, p.lines_right) (go (over_count_by m s.many) (ltb m.boxes (sum_below (quantity_of s.kinds) s.many.kinds)))
  where
    go : (a b : Bool) → or_else (when a 2) (or_else (when b 2) 0) ≡ when (a || b) 2
    go true b = refl
    go false true = refl
    go false false = refl

-- ---- files

-- what is read today, and the refusal that it gets, are those by the counts that hold
pub sheet_now : (f : List ℕ) → sheet_of f ≡ sheet_by most_now f
unfolding sheet_of
sheet_now f = refl

pub refusal_now : (f : List ℕ) → refusal_of f ≡ refusal_by most_now f
unfolding refusal_of
refusal_now f = refl

-- a file's records read into more or fewer cells, each time enough of them
cells_alike : (m n : Most) (f : List ℕ) → Fits m (counts_of f) → Fits n (counts_of f) → Alike (sheet_by m f) (sheet_by n f)
unfolding kinds_by lines_by ids_by
cells_alike m n f p q =
    let c = counts_of f in
    let kind : ℕ → Kind = λ k. kind_from f (kind_place k) in
    let line : ℕ → Line = λ i. line_from f (line_place f i) in
    let id : ℕ → ℕ = λ i. u32_at f (id_place f i) in
    record {
      many_is = refl;
      container_is = refl;
      kind_is =
          λ k l.
          table_at blank_kind m.kinds kind c.kinds k no_kind p.kinds l
          ∙ sym (table_at blank_kind n.kinds kind c.kinds k no_kind q.kinds l);
      line_is =
          λ i l.
          table_at blank_line m.lines line c.lines i no_line p.lines l
          ∙ sym (table_at blank_line n.lines line c.lines i no_line q.lines l);
      id_is =
          λ i l.
          table_at 0 m.unplaced id c.unplaced i 0 p.unplaced l
          ∙ sym (table_at 0 n.unplaced id c.unplaced i 0 q.unplaced l);
    }

-- a file that is not refused has the right shape
right_by : (b : Most) (f : List ℕ) → refusal_by b f ≡ 0 → right_shape f ≡ true
right_by b f h = not_true_of (right_shape f) (when_none (not (right_shape f)) 0 (or_else_first (when (not (right_shape f)) 1) _ h))

-- and what its sheet is tested for passed
passed_by : (b : Most) (f : List ℕ) → refusal_by b f ≡ 0 → Passed b (sheet_by b f)
passed_by b f h = passed b (sheet_by b f) (or_else_second (when (not (right_shape f)) 1) _ h)

-- past the shape the sheet decides
decides_by : (b : Most) (f : List ℕ) → right_shape f ≡ true → refusal_by b f ≡ sheet_refusal_by b (sheet_by b f)
unfolding or_else
decides_by b f h = rw h

module _ (m n : Most) (w : Within m n) (f : List ℕ) where
  -- **with larger counts an accepted file reads the same**
  pub reads_alike : refusal_by m f ≡ 0 → Alike (sheet_by m f) (sheet_by n f)
  reads_alike h = let p = passed_by m f h in cells_alike m n f p.fit (more_fit m n (counts_of f) w p.fit)

  -- **and is accepted still**
  pub accepted_more : refusal_by m f ≡ 0 → refusal_by n f ≡ 0
  accepted_more h =
      let p = passed_by m f h in
      let s = sheet_by m f in
      decides_by n f (right_by m f h)
      ∙ sym (alike_refused s (sheet_by n f) (reads_alike h) n)
      ∙ by_counts n m s p
      ∙ rw (not_over n (counts_of f) (more_fit m n (counts_of f) w p.fit), le-ltb n.boxes (sum_below (quantity_of s.kinds) s.many.kinds) (omega arith))

  -- **and its sheet is written as the same bytes**
  pub written_same : refusal_by m f ≡ 0 → file_of (sheet_by m f) ≡ file_of (sheet_by n f)
  written_same h = alike_written (sheet_by m f) (sheet_by n f) (reads_alike h)

-- how many boxes a file's kinds have in all, read into so many cells
abbrev pub boxes_by : Most → List ℕ → ℕ
boxes_by b f = sum_below (quantity_of (sheet_by b f).kinds) (counts_of f).kinds

-- **a file of right shape with more records than the counts allow gets refusal 2**
pub longer_gets_2 : (m : Most) (f : List ℕ) → right_shape f ≡ true → over_count_by m (counts_of f) ≡ true → refusal_by m f ≡ 2
unfolding or_else
longer_gets_2 m f h k = rw (h, k)

-- **and so does one with more boxes, and no fault that is looked for before them**
pub boxes_get_2 : (m : Most) (f : List ℕ) → right_shape f ≡ true → over_count_by m (counts_of f) ≡ false → container_fault (container_from f) ≡ false
    → first_below (kind_fault_in (sheet_by m f).kinds) (counts_of f).kinds ≡ 0 → m.boxes < boxes_by m f → refusal_by m f ≡ 2
unfolding or_else
boxes_get_2 m f h c r k l = rw (h, c, r, k, lt-ltb m.boxes (boxes_by m f) l)

-- **what some counts accept, others refuse with 2 where it has more records or more boxes than they allow, and else accept**
pub fewer_decides : (m n : Most) (f : List ℕ) → refusal_by n f ≡ 0 → refusal_by m f ≡ when (over_count_by m (counts_of f) || ltb m.boxes (boxes_by n f)) 2
fewer_decides m n f h = go (over_count_by m (counts_of f)) refl
  where
    go : (b : Bool) → over_count_by m (counts_of f) ≡ b → refusal_by m f ≡ when (over_count_by m (counts_of f) || ltb m.boxes (boxes_by n f)) 2
    go true e = longer_gets_2 m f (right_by n f h) e ∙ rw e
    go false e =
        let p = passed_by n f h in
        decides_by m f (right_by n f h)
        ∙ alike_refused (sheet_by m f) (sheet_by n f) (cells_alike m n f (fits m (counts_of f) e) p.fit) m
        ∙ by_counts m n (sheet_by n f) p
