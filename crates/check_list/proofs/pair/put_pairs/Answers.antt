-- `pair::put_pairs` meets its contract: after i turns the pairs of the first i lines stand.
use Rattle.std.proofs.Common.{◌≡◌, refl, ◌∙◌, arith}
use native.Mathlib.Nat.{sub_self}
use Rattle.lists.specs.Below.{all_below}
use Rattle.check_words.specs.Writes.{wrote_none, wrote_more, wrote_length}
use Rattle.check_list.proofs.Spans.{told_far}
use Rattle.check_list.proofs.Pairs.{enough_none, enough_more, enough_all, enough_room}
use Rattle.check_list.proofs.pair.put_pairs.Goals as goal

pub loop-i-init : goal.loop-i-init
unfolding all_below
loop-i-init c = record { enough = enough_none _ _; words = wrote_none _ _ }

pub put_from-p-requires : goal.put_from-p-requires
put_from-p-requires c =
    let k = c.clearance_of.ensures in
    let settled = rw (k.asked, k.slack) at c.quick_of-quick.ensures in
    let good = c.put_spans-spanned.ensures in
    let room = enough_room c.args.at c.args.rule.lines c.loop-i.i c.loop-i.p c.loop-i-test.true c.requires.few c.loop-i.invariant.enough in
    record {
      one = c.loop-i-test.true;
      room = omega (arith, room, c.requires.room);
      told =
          record {
            few = c.requires.few;
            which_long = c.requires.which_long;
            boxes_long = c.requires.boxes_long;
            rows_long = let e = good.blocks in omega arith;
            limit_is = settled.limit_is;
            fair = settled.fair;
            tells =
                told_far c.args.boxes.now _ c.args.rule.lines c.put_spans-spanned.result good.spanned c.quick_of-quick.result.limit
                c.quick_of-quick.result.reach (settled.reach_is ∙ rw settled.limit_is);
          };
      slack = c.requires.slack;
    }

pub loop-i-preserved : goal.loop-i-preserved
loop-i-preserved c =
    let i = c.loop-i.invariant in
    let w = c.put_from-p.ensures in
    record {
      enough = enough_more c.args.at c.args.rule.lines c.loop-i.i _ c.loop-i.p c.put_from-p.result c.loop-i-test.true refl w.few i.enough;
      words = wrote_more _ _ i.words w.words;
    }

pub shape_of-out : goal.shape_of-out
shape_of-out c = wrote_length c.loop-i.invariant.words

pub returns : goal.returns
returns c =
    let i = c.loop-i.invariant in
    let e : c.loop-i.i ≡ c.args.rule.lines = omega arith in
    record { words = rw e at i.words; few = enough_all _ _ _ (rw (e, sub_self) at i.enough) }
