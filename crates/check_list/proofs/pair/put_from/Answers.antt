-- `pair::put_from` meets its contract: before the block from j on the pairs of i with the lines below j stand.
use Rattle.std.proofs.Common.{◌≡◌, ℕ, ◌+◌, sym, ap, ◌∙◌, arith, Float}
use Rattle.lists.specs.Below.{all_none}
use Rattle.check_words.specs.Writes.{wrote_none, wrote_length}
use Rattle.check_list.specs.View.{pair_found, pairs_found}
use Rattle.check_pair.specs.Pair.{gaps}
use Rattle.check_pair.specs.Shortcut.{some_gap, limit_of}
use Rattle.check_words.specs.Boxes.{box_at}
use Rattle.check_list.specs.Held.{boxes_in}
use Rattle.check_list.proofs.Found.{pair_none, pair_far, all_skip}
use Rattle.check_list.proofs.Spans.{block_same}
use Rattle.check_list.proofs.pair.put_from.Goals as goal

pub loop-j-init : goal.loop-j-init
loop-j-init c =
    let v = boxes_in c.args.rule c.args.which.now c.args.boxes.now in
    let i = c.args.i in
    record {
      later = omega arith;
      within = omega arith;
      few = omega arith;
      words = rw (all_none (pair_found v i) (i + 1) (λ k l. pair_none v i k (omega arith))) (wrote_none _ _);
    }

pub near_end-end-requires : goal.near_end-end-requires
near_end-end-requires c =
    let t = c.requires.told in
    let e = c.block_end-to.ensures in
    record {
      some = e.after;
      long = omega (arith, e.within, t.boxes_long);
      tells =
          λ g j from below.
          t.tells c.args.i j c.requires.one (omega (arith, below, e.within))
          (ap (λ (q : ℕ). some_gap c.args.quick.reach (gaps (box_at c.args.boxes.now c.args.i) (box_at c.args.spans.now q))) (block_same from below e) ∙ g);
    }

pub put_each-p-requires : goal.put_each-p-requires
put_each-p-requires c =
    let t = c.requires.told in
    let i = c.loop-j.invariant in
    let e = c.block_end-to.ensures in
    let h = c.near_end-end.ensures in
    record {
      later = i.later;
      within = (h.after, omega (arith, h.within, e.within));
      which_long = t.which_long;
      boxes_long = t.boxes_long;
      room = omega (arith, i.later, i.few, h.after, h.within, e.within, c.requires.room);
      slack = c.requires.slack;
      fair = t.fair;
    }

pub loop-j-preserved : goal.loop-j-preserved
loop-j-preserved c =
    let t = c.requires.told in
    let v = boxes_in c.args.rule c.args.which.now c.args.boxes.now in
    let i = c.loop-j.invariant in
    let e = c.block_end-to.ensures in
    let h = c.near_end-end.ensures in
    let w = c.put_each-p.ensures in
    let limit = t.limit_is ∙ ap (limit_of c.args.rule.case.spacing) c.requires.slack in
    let skipped =
    all_skip (pair_found v c.args.i) c.near_end-end.result c.block_end-to.result h.within
    (λ k from below.
    pair_far c.args.rule c.args.which.now c.args.boxes.now c.args.i k (omega (arith, i.later, h.after))
    (ap (λ (q : Float). some_gap q (gaps (box_at c.args.boxes.now c.args.i) (box_at c.args.boxes.now k))) (sym limit) ∙ h.far k from below)) in
    record {
      later = omega (arith, i.later, e.after);
      within = e.within;
      few = omega (arith, i.later, i.few, w.few, h.within, e.after);
      words = rw skipped (w.words _ _ i.words);
    }

pub loop-j-smaller : goal.loop-j-smaller
loop-j-smaller c = omega (arith, c.block_end-to.ensures.after, c.block_end-to.ensures.within)

pub shape_of-out : goal.shape_of-out
shape_of-out c = wrote_length c.loop-j.invariant.words

pub returns : goal.returns
unfolding pairs_found
returns c =
    let i = c.loop-j.invariant in
    let e : c.loop-j.j ≡ c.args.rule.lines = omega (arith, i.within) in
    record { words = rw e at i.words; few = rw e at i.few }
