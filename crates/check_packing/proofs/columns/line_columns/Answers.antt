-- `columns::line_columns` meets its contract: after i turns the first i cells of each column are filled, and their mass is summed.
use mathlib.Core.Path.{◌≡◌, refl, ap, ◌∙◌}
use Prim.Native.Nat.{◌≤◌, ◌<◌}
use lib.ListN.{length}
use native.Mathlib.Numerals.{add-one}
use native.Mathlib.Omega.{arith}
use Rattle.domain.specs.Bounds.{most_lines}
use Rattle.lists.specs.Table.{filled, filled_length}
use Rattle.sheet.specs.declared.Line.{Line}
use Rattle.file_read.specs.Reading.{sheet_of}
use Rattle.file_read.specs.Records.{line_is}
use Rattle.check_packing.specs.Lines.{kind_of, mass_below}
use Rattle.check_packing.specs.Columns.{kind_named, box_read}
use Rattle.check_packing.proofs.Read.{few_kinds, few_lines, place_read, box_read_lem, mass_read}
use Rattle.check_packing.proofs.columns.line_columns.Goals as goal
use Rattle.check_packing.proofs.columns.line_columns.Goals.{In-loop-i}

pub loop-i-init : goal.loop-i-init
unfolding filled mass_below
loop-i-init c = record { mass_is = refl; which_are = refl; boxes_are = refl }

pub place_of-w-requires : goal.place_of-w-requires
place_of-w-requires c = few_kinds _ _ c.requires.0

inside : (c : In-loop-i) → c.args.a.lines ≤ most_lines
inside c = few_lines _ _ c.requires.0

-- line i has a cell of the places
in_which : (c : In-loop-i) → c.loop-i.i < length c.loop-i.which
in_which c =
    let long = c.requires.1.1.0 in
    let less = c.loop-i-test.true in
    rw (c.loop-i.invariant.which_are, filled_length c.args.which.now (kind_named (sheet_of c.args.f.now)) c.loop-i.i) (omega arith)

in_boxes : (c : In-loop-i) → c.loop-i.i < length c.loop-i.boxes
in_boxes c =
    let long = c.requires.1.1.1 in
    let less = c.loop-i-test.true in
    rw (c.loop-i.invariant.boxes_are, filled_length c.args.boxes.now (box_read c.args.f.now) c.loop-i.i) (omega arith)

pub loop-i-preserved : goal.loop-i-preserved
unfolding filled mass_below kind_named
loop-i-preserved c =
    let t = c.requires.0 in
    let i = c.loop-i.i in
    let v = c.loop-i.invariant in
    let el = c.line_in-l.ensures ∙ line_is _ _ _ t.can_read t.start_is (rw t.lines_are at c.loop-i-test.true) in
    let ew = place_read _ _ t _ c.requires.1.0 _ _ c.place_of-w.ensures ∙ ap (λ (q : Line). kind_of (sheet_of c.args.f.now) q.id) el in
    let eb = box_read_lem _ _ t i _ el _ ew _ c.kind_in-k.ensures _ c.box_of.ensures in
    record {
      mass_is = rw add-one (mass_read _ _ t i _ el _ ew _ c.kind_in-k.ensures _ _ v.mass_is c.mass_with-mass.ensures);
      which_are = rw (add-one, ← v.which_are) (rw ew);
      boxes_are = rw (add-one, ← v.boxes_are) (rw eb);
    }

pub returns : goal.returns
returns c =
    let v = c.loop-i.invariant in
    let e : c.loop-i.i ≡ c.args.a.lines = omega arith in
    (rw e at v.mass_is, rw e at v.which_are, rw e at v.boxes_are)

pub shape_of-which : goal.shape_of-which
shape_of-which c = rw c.loop-i.invariant.which_are (filled_length _ _ _)

pub shape_of-boxes : goal.shape_of-boxes
shape_of-boxes c = rw c.loop-i.invariant.boxes_are (filled_length _ _ _)

pub bounds-which-i : goal.bounds-which-i
bounds-which-i c = in_which (goal.at.bounds-which-i c).In-loop-i

pub bounds-boxes-i : goal.bounds-boxes-i
bounds-boxes-i c = in_boxes (goal.at.bounds-boxes-i c).In-loop-i
