-- A plan that was laid in lent memory: of an accepted order the unplaced list that is made from the lines there is the plan's own.
use Rattle.std.specs.Prelude.{◌≡◌, true, ◌||◌, List, ℕ, ◌≤◌, ltb, length, Ok, Err}
use Rattle.std.proofs.Common.{sym, ap, ◌∙◌, arith}
use Rattle.domain.specs.Bounds.{most_kinds, most_lines}
use Rattle.domain.specs.declared.Refusal.{Refusal}
use Rattle.domain.specs.Refusal.{answer_with}
use Rattle.sheet.specs.declared.Counts.{Counts}
use Rattle.sheet.specs.declared.Line.{Line}
use Rattle.sheet.specs.declared.Sheet.{Sheet}
use Rattle.sheet.specs.Sheets.{no_line}
use Rattle.file_read.specs.Form.{counts_of}
use Rattle.file_read.specs.Reading.{sheet_of, refusal_of}
use Rattle.file_read.specs.Records.{counts_in, counts_right_in, bounds, many_is}
use Rattle.file_accept.specs.Accept.{readable}
use Rattle.plan_unplaced.specs.declared.Left.{Left}
use Rattle.plan_unplaced.specs.Left.{over_bound, left_of, left_by, left_long, none_over}
use Rattle.plan_unplaced.specs.Same.{same_lines}
use Rattle.plan_unplaced.specs.InFile.{kinds_in, kinds_in_is}
use Rattle.plan_sheet.specs.declared.Told.{Told}
use Rattle.plan_sheet.specs.Plans.{Plan}
use Rattle.plan_sheet.specs.Laid.{told_of, laid_in}
use Rattle.plan_sheet.specs.LaidLaws.{laid_at}
use Rattle.plan_sheet.specs.Refused.{test_holds}
use Rattle.plan_laws.specs.Accepted.{Lists, left_in}

-- the ids of what these lines leave of the order's kinds
unfoldable pub laid_left : List ℕ → Told → List Line → Left
laid_left f t lines = left_by (kinds_in f (counts_in f).kinds) (counts_in f).kinds lines t.placed

pub counts_are : (f : List ℕ) → refusal_of f ≡ 0 → counts_in f ≡ counts_of f
counts_are f z = counts_right_in f (readable f z).shape

pub kinds_few : (f : List ℕ) → refusal_of f ≡ 0 → (counts_in f).kinds ≤ most_kinds
kinds_few f z =
    let e = ap (λ (m : Counts). m.kinds) (counts_are f z) in
    let b = (bounds f (readable f z)).kinds in
    omega (arith, e, b)

module _ (f : List ℕ) (t : Told) (lines : List Line) where
  -- of an accepted file they are made, in as many lines as are placed
  pub left_made : refusal_of f ≡ 0 → t.placed ≤ most_lines → t.placed ≤ length lines
      → left_of (kinds_in f (counts_in f).kinds) (counts_in f).kinds lines t.placed ≡ Ok (laid_left f t lines)
  unfolding laid_left answer_with
  left_made z few room =
      left_long (kinds_in f (counts_in f).kinds) (counts_in f).kinds lines t.placed room ∙ rw (none_over (counts_in f).kinds t.placed (kinds_few f z) few)

  -- and they are refused where a count is over, or there are fewer lines
  pub left_refused : (r : Refusal) → Err r ≡ left_of (kinds_in f (counts_in f).kinds) (counts_in f).kinds lines t.placed
      → (over_bound (counts_in f).kinds t.placed || ltb (length lines) t.placed) ≡ true
  unfolding left_of
  left_refused r e = test_holds (over_bound (counts_in f).kinds t.placed || ltb (length lines) t.placed) 2 0 (laid_left f t lines) r (unfold laid_left in e)

module _ (f : List ℕ) (z : refusal_of f ≡ 0) (p : Plan) (lists : Lists (sheet_of f).kinds (sheet_of f).many.kinds p) (old : List Line)
    (room : p.placed ≤ length old) where
  abbrev order : Sheet
  order = sheet_of f

  abbrev left : Left
  left = laid_left f (told_of p) (laid_in old p)

  left_by_lem : left ≡ left_by order.kinds (counts_of f).kinds p.lines p.placed
  unfolding laid_left
  left_by_lem =
      ap (λ (m : Counts). left_by (kinds_in f m.kinds) m.kinds (laid_in old p) p.placed) (counts_are f z)
      ∙ rw (kinds_in_is f (readable f z))
      (same_lines (laid_in old p) p.lines p.placed (λ j l. laid_at old p j no_line room l) order.kinds (counts_of f).kinds)

  left_in_lem : left ≡ left_in order.kinds order.many.kinds p.lines p.placed
  unfolding left_by
  left_in_lem = left_by_lem ∙ ap (λ (m : Counts). left_in order.kinds m.kinds p.lines p.placed) (many_is f)

  pub count_is : left.count ≡ p.unplaced
  count_is = ap (λ (l : Left). l.count) left_in_lem ∙ sym lists.count_is

  pub ids_are : left.ids ≡ p.ids
  ids_are = ap (λ (l : Left). l.ids) left_in_lem ∙ sym lists.ids_are
