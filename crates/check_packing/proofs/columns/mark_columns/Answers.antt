-- `columns::mark_columns` meets its contract: before line i the marks are those of the lines before it.
use mathlib.Core.Path.{◌≡◌, refl, ap, ◌∙◌}
use Prim.Native.Nat.{◌≤◌, ◌<◌}
use native.Mathlib.Numerals.{add-one}
use native.Mathlib.Omega.{arith}
use mathlib.Core.Bool.{false, ◌&&◌, ◌||◌}
use lib.Dec.{ltb}
use lib.ListN.{length, get_or, replicate, length-set}
use Rattle.domain.specs.Bounds.{most_kinds, most_lines, place_within}
use Rattle.lists.specs.Below.{sum_below}
use Rattle.lists.specs.Table.{filled, filled_length}
use Rattle.sheet.specs.declared.Line.{Line}
use Rattle.sheet.specs.Sheets.{line_at}
use Rattle.file_read.specs.Reading.{sheet_of}
use Rattle.file_read.specs.Records.{line_is}
use Rattle.check_packing.specs.Lines.{packed, counted}
use Rattle.check_packing.proofs.Read.{sound, kinds_are, lines_are, few_lines, counts_read}
use Rattle.check_packing.proofs.Marks.{Marked, marked_start, turn, first_at, slot_in, one_when, one_few}
use Rattle.check_packing.proofs.columns.mark_columns.Goals as goal
use Rattle.check_packing.proofs.columns.mark_columns.Goals.{After-from, After-slot-at, In-loop-i}

pub loop-i-init : goal.loop-i-init
unfolding filled
loop-i-init c =
    let t = c.requires.0.file_taken in
    let u = c.requires.1.1.1.1 in
    let seen = c.args.seen.now in
    let start : Marked (sheet_of c.args.f.now) 0 (replicate (length seen) false) (replicate most_kinds 0) =
    marked_start (sheet_of c.args.f.now) (sound _ _ t) (length seen) (rw (kinds_are _ _ t) at u.enough) in
    record { again_are = refl; marked = rw c.requires.1.0 (rw (← u.none_set) at start); as_long = refl }

inside : (c : In-loop-i) → c.args.a.lines ≤ most_lines
inside c = few_lines _ _ c.requires.0.file_taken

-- line i has a cell of both columns
in_which : (c : In-loop-i) → c.loop-i.i < length c.args.which.now
in_which c = let h = c.requires.1.1.0 in let l = c.loop-i-test.true in omega arith

in_again : (c : In-loop-i) → c.loop-i.i < length c.args.again.now
in_again c = let h = c.requires.1.1.1.0 in let l = c.loop-i-test.true in omega arith

pub loop-i-preserved : goal.loop-i-preserved
unfolding filled
loop-i-preserved c =
    let q = c.requires.0 in
    let t = q.file_taken in
    let i = c.loop-i.i in
    let v = c.loop-i.invariant in
    let lt = c.loop-i-test.true in
    let el = c.line_in-l.ensures ∙ line_is _ _ _ t.can_read t.start_is (rw t.lines_are at lt) in
    let ew = q.which_is i lt in
    let line = c.line_in-l.result in
    let w₁ = c.place_within-w.result in
    let named = get_or c.args.which.now i 0 in
    let counts = ltb named c.args.a.kinds && ltb line.instance (get_or c.args.many.now w₁ 0) in
    let k : counts ≡ counted (sheet_of c.args.f.now) (line_at (sheet_of c.args.f.now) i) =
    counts_read c.args.f.now c.args.a t c.args.many.now q.many_is i line el named w₁ ew c.place_within-w.ensures.0 in
    let w = c.place_within-w.ensures.0 ∙ ap place_within ew in
    let first = first_at (sheet_of c.args.f.now) (sound _ _ t) c.args.firsts.now c.args.a.kinds (kinds_are _ _ t) q.first_is i w₁ w in
    let at = c.slot-at.result in
    let kept = length-set c.loop-i.seen at (get_or c.loop-i.seen at false || counts) in
    let step =
    turn (sheet_of c.args.f.now) (sound _ _ t) i c.loop-i.seen c.loop-i.packed v.marked counts k (get_or c.args.firsts.now w₁ 0) c.slot-at.result w₁
    c.from.result
    first line.instance (ap (λ (x : Line). x.instance) el) c.slot-at.ensures w (c.from.ensures ∙ one_when _) in
    record { again_are = rw (add-one, ← v.again_are) (rw step.0); marked = rw add-one step.1; as_long = kept ∙ v.as_long }

pub returns : goal.returns
unfolding packed
returns c =
    let t = c.requires.0.file_taken in
    let v = c.loop-i.invariant in
    let e : c.loop-i.i ≡ c.args.a.lines = omega arith in
    (rw e at v.again_are, λ k below. v.marked.sums k (rw (← (kinds_are _ _ t)) below) ∙ ap (sum_below _) (e ∙ lines_are _ _ t))

one_more : (c : After-from) → c.args.a.lines ≤ most_lines
one_more c = few_lines _ _ c.requires.0.file_taken

-- the mark that is read is among them
slot_lt : (c : After-slot-at) → c.slot-at.result < length c.loop-i.seen
slot_lt c =
    rw c.slot-at.ensures (slot_in (length c.loop-i.seen) _ _ _ (rw c.loop-i.invariant.as_long c.requires.1.1.1.1.some))

pub shape_of-again : goal.shape_of-again
shape_of-again c = rw c.loop-i.invariant.again_are (filled_length _ _ _)

pub overflow_add-packed : goal.overflow_add-packed
overflow_add-packed c =
    let h = c.loop-i.invariant.marked.few c.place_within-w.result c.place_within-w.ensures.1 in
    omega (arith, h, one_few _ _ c.from.ensures, one_more (goal.at.overflow_add-packed c).After-from)

pub bounds-which-i : goal.bounds-which-i
bounds-which-i c = in_which (goal.at.bounds-which-i c).In-loop-i

pub bounds-which-i-in-loop-i : goal.bounds-which-i-in-loop-i
bounds-which-i-in-loop-i c = in_which (goal.at.bounds-which-i-in-loop-i c).In-loop-i

pub offset_bounds-many-w : goal.offset_bounds-many-w
offset_bounds-many-w c = omega (arith, c.place_within-w.ensures.1)

pub bounds-many-w : goal.bounds-many-w
bounds-many-w c = omega (arith, c.place_within-w.ensures.1)

pub offset_bounds-firsts-w : goal.offset_bounds-firsts-w
offset_bounds-firsts-w c = omega (arith, c.place_within-w.ensures.1)

pub bounds-firsts-w : goal.bounds-firsts-w
bounds-firsts-w c = omega (arith, c.place_within-w.ensures.1)

pub bounds-seen-at : goal.bounds-seen-at
bounds-seen-at c = slot_lt (goal.at.bounds-seen-at c).After-slot-at

pub bounds-again-i : goal.bounds-again-i
bounds-again-i c = rw (c.loop-i.invariant.again_are, filled_length) (in_again (goal.at.bounds-again-i c).In-loop-i)

pub bounds-seen-at-in-loop-i : goal.bounds-seen-at-in-loop-i
bounds-seen-at-in-loop-i c = slot_lt (goal.at.bounds-seen-at-in-loop-i c).After-slot-at

pub offset_bounds-packed-w : goal.offset_bounds-packed-w
offset_bounds-packed-w c = omega (arith, c.place_within-w.ensures.1)

pub bounds-packed-w : goal.bounds-packed-w
bounds-packed-w c = omega (arith, c.place_within-w.ensures.1)

pub bounds-packed-w-in-loop-i : goal.bounds-packed-w-in-loop-i
bounds-packed-w-in-loop-i c = omega (arith, c.place_within-w.ensures.1)

pub shape_of-seen : goal.shape_of-seen
shape_of-seen c = c.loop-i.invariant.as_long
