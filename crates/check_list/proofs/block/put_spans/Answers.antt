-- `block::put_spans` meets its contract: while all were within their spans, each line that was passed is within that of its block.
use Rattle.std.proofs.Common.{◌≡◌, true, ℕ, ◌+◌, ◌-◌, ◌*◌, ◌<◌, [], length, take, drop, length-set, length-drop, get_or-set_same, arith}
use Rattle.std.proofs.lemmas.List.{length-take}
use Rattle.check_pair.specs.Span.{spans}
use Rattle.check_words.specs.Boxes.{box_at}
use Rattle.lists.specs.Bools.{and_left, and_right}
use Rattle.check_list.specs.Blocks.{block}
use Rattle.check_list.proofs.Spans.{spanned_more, box_between}
use Rattle.check_list.proofs.block.put_spans.Goals as goal
use Rattle.check_list.proofs.block.put_spans.Goals.{After-all_spanned-all}

-- the lines of block k are within its span
own : (c : After-all_spanned-all) → c.all_spanned-all.result ≡ true
    → (j : ℕ) → j < c.block_end.result - c.loop-k.k * block → spans c.span_of.result (box_at c.args.boxes.now (c.loop-k.k * block + j)) ≡ true
own c h j l =
    let k = c.loop-k.k in
    let to = c.block_end.result in
    let there : k < length c.loop-k.spans = rw c.loop-k.invariant.blocks (omega (arith, c.loop-k-test.true, c.div_ceil-k-end.ensures, c.requires.few)) in
    let long : j < length (take (to - k * block) (drop (k * block) c.args.boxes.now)) =
    simp (length-take, length-drop) (omega (arith, c.block_end.ensures.within, c.requires.long)) in
    rw (get_or-set_same c.loop-k.spans k c.span_of.result (record { min = []; max = [] }) there, box_between c.args.boxes.now (k * block) to j l)
    at (c.all_spanned-all.ensures h j long)

pub loop-k-preserved : goal.loop-k-preserved
loop-k-preserved c =
    let i = c.loop-k.invariant in
    let here : c.loop-k.k * block < c.args.n = omega (arith, c.loop-k-test.true, c.div_ceil-k-end.ensures) in
    record {
      blocks = rw length-set i.blocks;
      spanned =
          λ h.
          spanned_more c.loop-k.spans c.args.n c.loop-k.k c.span_of.result c.requires.few i.blocks here c.args.boxes.now c.block_end.result c.block_end.ensures
          (i.spanned (and_left c.loop-k.all _ h)) (own c (and_right c.loop-k.all _ h));
    }
