-- `kind::put_missing` meets its contract: after k turns the findings of the first k kinds stand.
use Rattle.std.proofs.Common.{◌≡◌, arith}
use Rattle.lists.specs.Below.{all_below}
use Rattle.check_words.specs.Writes.{wrote_none, wrote_more, wrote_length}
use Rattle.check_list.specs.Finding.{lost_words}
use Rattle.check_list.specs.Held.{lost_in}
use Rattle.check_list.proofs.kind.put_missing.Goals as goal

pub loop-k-init : goal.loop-k-init
unfolding all_below
loop-k-init c = record { few = omega arith; words = wrote_none _ _ }

pub loop-k-preserved : goal.loop-k-preserved
unfolding lost_in lost_words
loop-k-preserved c =
    let i = c.loop-k.invariant in
    let g = c.write_if-p.ensures in
    record { few = omega (arith, g.few, i.few); words = wrote_more _ _ i.words (g.within (omega (arith, i.few))) }

pub shape_of-out : goal.shape_of-out
shape_of-out c = wrote_length c.loop-k.invariant.words

pub returns : goal.returns
returns c =
    let i = c.loop-k.invariant in
    let e : c.loop-k.k ≡ c.args.m = omega arith in
    record { words = rw e at i.words; few = rw e at i.few }
