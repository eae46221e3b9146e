-- `left::listed_column` meets its contract: before unplaced id i the kinds listed before it are marked.
use mathlib.Core.Path.{◌≡◌, ap, ◌∙◌}
use Prim.Native.Nat.{◌≤◌}
use native.Mathlib.Numerals.{add-one}
use native.Mathlib.Omega.{arith}
use Rattle.domain.specs.Bounds.{most_unplaced}
use Rattle.file_read.specs.Reading.{sheet_of}
use Rattle.file_read.specs.Records.{unplaced_is}
use Rattle.check_packing.specs.Lines.{kind_of}
use Rattle.check_packing.proofs.Read.{sound, few_kinds, few_unplaced, kinds_are, place_read}
use Rattle.check_packing.proofs.Listed.{listed_start, listed_more}
use Rattle.check_packing.proofs.left.listed_column.Goals as goal
use Rattle.check_packing.proofs.left.listed_column.Goals.{In-loop-i}

pub loop-i-init : goal.loop-i-init
loop-i-init c = rw c.requires.1.1 (listed_start _ (sound _ _ c.requires.0))

pub place_of-w-requires : goal.place_of-w-requires
place_of-w-requires c = few_kinds _ _ c.requires.0

inside : (c : In-loop-i) → c.args.a.unplaced ≤ most_unplaced
inside c = few_unplaced _ _ c.requires.0

pub loop-i-preserved : goal.loop-i-preserved
loop-i-preserved c =
    let t = c.requires.0 in
    let g = sheet_of c.args.f.now in
    let e = c.unplaced_in.ensures ∙ unplaced_is _ _ _ t.can_read t.end_is (rw t.unplaced_are at c.loop-i-test.true) in
    let w = place_read _ _ t _ c.requires.1.0 _ _ c.place_of-w.ensures ∙ ap (kind_of g) e in
    let more = listed_more g (sound _ _ t) c.loop-i.i c.loop-i.listed c.loop-i.invariant c.place_of-w.result c.place_within-k.result w c.place_within-k.ensures.0 in
    rw (add-one, kinds_are _ _ t) more

pub returns : goal.returns
returns c =
    let e : c.loop-i.i ≡ c.args.a.unplaced = omega arith in
    rw e at c.loop-i.invariant

pub bounds-listed-k : goal.bounds-listed-k
bounds-listed-k c = omega (arith, c.place_within-k.ensures.1)

pub bounds-listed-k-in-loop-i : goal.bounds-listed-k-in-loop-i
bounds-listed-k-in-loop-i c = omega (arith, c.place_within-k.ensures.1)
