-- `left::put_wrong` meets its contract: after i turns the findings of the first i unplaced ids stand, and their kinds are marked.
use mathlib.Core.Path.{◌≡◌, ap, ◌∙◌}
use Prim.Native.Nat.{◌≤◌}
use native.Mathlib.Numerals.{add-one}
use native.Mathlib.Omega.{arith}
use Rattle.domain.specs.Bounds.{most_unplaced}
use Rattle.lists.specs.Below.{all_below}
use Rattle.file_read.specs.Reading.{sheet_of}
use Rattle.file_read.specs.Records.{unplaced_is}
use Rattle.check_words.specs.Writes.{wrote_none, wrote_more, wrote_length}
use Rattle.check_packing.specs.Lines.{kind_of}
use Rattle.check_packing.proofs.Read.{sound, few_kinds, few_unplaced, kinds_are, place_read}
use Rattle.check_packing.proofs.Listed.{listed_start, listed_more, wrong_is}
use Rattle.check_packing.proofs.left.put_wrong.Goals as goal
use Rattle.check_packing.proofs.left.put_wrong.Goals.{In-loop-i}

pub loop-i-init : goal.loop-i-init
unfolding all_below
loop-i-init c = record { few = omega arith; listed = listed_start _ (sound _ _ c.requires.0); words = wrote_none _ _ }

pub place_of-w-requires : goal.place_of-w-requires
place_of-w-requires c = few_kinds _ _ c.requires.0

inside : (c : In-loop-i) → c.args.a.unplaced ≤ most_unplaced
inside c = few_unplaced _ _ c.requires.0

pub loop-i-preserved : goal.loop-i-preserved
loop-i-preserved c =
    let t = c.requires.0 in
    let g = sheet_of c.args.f.now in
    let v = c.loop-i.invariant in
    let m = kinds_are _ _ t in
    let u = inside (goal.at.loop-i-preserved c).In-loop-i in
    let e = c.unplaced_in-id.ensures ∙ unplaced_is _ _ _ t.can_read t.end_is (rw t.unplaced_are at c.loop-i-test.true) in
    let w = place_read _ _ t _ c.requires.1.0 _ _ c.place_of-w.ensures ∙ ap (kind_of g) e in
    let k = c.place_within-k.ensures.0 in
    let more = listed_more g (sound _ _ t) c.loop-i.i c.loop-i.seen v.listed c.place_of-w.result c.place_within-k.result w k in
    let words = wrong_is g (sound _ _ t) c.loop-i.i c.loop-i.seen v.listed c.place_of-w.result c.place_within-k.result w k c.args.short.now
    (rw m at c.requires.1.1.0) in
    let put = c.write_if-p.ensures in
    record {
      few = omega (arith, v.few, put.few);
      listed = rw (add-one, m) more;
      words = wrote_more _ _ v.words (rw words at (rw (e, m) at (put.within (omega (arith, v.few, u, c.requires.1.1.1, c.loop-i-test.true)))));
    }

pub shape_of-out : goal.shape_of-out
shape_of-out c = wrote_length c.loop-i.invariant.words

pub returns : goal.returns
returns c =
    let e : c.loop-i.i ≡ c.args.a.unplaced = omega arith in
    record { words = rw e at c.loop-i.invariant.words; few = rw e at c.loop-i.invariant.few }

pub bounds-short-k : goal.bounds-short-k
bounds-short-k c = omega (arith, c.place_within-k.ensures.1)

pub bounds-seen-k : goal.bounds-seen-k
bounds-seen-k c = omega (arith, c.place_within-k.ensures.1)

pub bounds-seen-k-in-loop-i : goal.bounds-seen-k-in-loop-i
bounds-seen-k-in-loop-i c = omega (arith, c.place_within-k.ensures.1)

pub bounds-seen-k-in-loop-i-2 : goal.bounds-seen-k-in-loop-i-2
bounds-seen-k-in-loop-i-2 c = omega (arith, c.place_within-k.ensures.1)
