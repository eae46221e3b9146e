-- `pair::put_each` meets its contract: before the turn for line j the pairs of i with the lines below j stand.
use Rattle.std.proofs.Common.{◌≡◌, refl, ◌∙◌, arith}
use Rattle.check_words.specs.Writes.{wrote_more, wrote_length}
use Rattle.check_list.proofs.Found.{pair_found_lem}
use Rattle.check_list.proofs.pair.put_each.Goals as goal

pub returns-then-to-from : goal.returns-then-to-from
returns-then-to-from c =
    let e : c.args.from ≡ c.args.to = omega arith in
    record { as_long = refl; few = omega arith; words = λ o q before. rw e at before }

pub loop-j-init : goal.loop-j-init
loop-j-init c = record { few = omega arith; as_long = refl; words = λ b q w. w }

pub loop-j-preserved : goal.loop-j-preserved
loop-j-preserved c =
    let i = c.loop-j.invariant in
    let k = c.clearance_of-clearance.ensures in
    let w = c.put_pair-p.ensures in
    record {
      few = omega (arith, i.few, w.1);
      as_long = wrote_length w.0 ∙ i.as_long;
      words =
          λ o q before.
          wrote_more _ _ (i.words o q before)
          (rw (pair_found_lem c.args.rule c.args.which.now c.args.boxes.now c.args.i c.loop-j.j (omega arith) c.requires.slack) at (rw (k.asked, k.slack) at w.0));
    }

pub shape_of-out : goal.shape_of-out
shape_of-out c = c.loop-j.invariant.as_long

pub returns : goal.returns
returns c =
    let i = c.loop-j.invariant in
    let e : c.loop-j.j ≡ c.args.to = omega arith in
    record { as_long = i.as_long; few = rw e at i.few; words = λ o q before. rw e at (i.words o q before) }
