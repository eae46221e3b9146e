-- `line::put_lines` meets its contract: after i turns the findings of the first i lines stand.
use Rattle.std.proofs.Common.{◌≡◌, append_assoc, arith}
use Rattle.lists.specs.Below.{all_below}
use Rattle.check_words.specs.Writes.{wrote_none, wrote_then, wrote_more, wrote_length}
use Rattle.check_list.specs.View.{line_found}
use Rattle.check_list.proofs.line.put_lines.Goals as goal

pub loop-i-init : goal.loop-i-init
unfolding all_below
loop-i-init c = record { few = omega arith; words = wrote_none _ _ }

pub put_name-q-requires : goal.put_name-q-requires
put_name-q-requires c = omega (arith, c.loop-i.invariant.few, c.requires.0.few)

pub put_place-p-requires : goal.put_place-p-requires
put_place-p-requires c = (omega (arith, c.put_name-q.ensures.1, c.loop-i.invariant.few, c.requires.0.few), c.requires.1)

pub loop-i-preserved : goal.loop-i-preserved
unfolding line_found
loop-i-preserved c =
    let i = c.loop-i.invariant in
    let q = c.put_name-q.ensures in
    let p = c.put_place-p.ensures in
    record {
      few = omega (arith, i.few, p.1, q.1);
      words = wrote_more _ _ i.words (rw append_assoc at (rw (c.line_in-l.ensures, c.kind_in-k.ensures) at (wrote_then q.0 p.0)));
    }

pub shape_of-out : goal.shape_of-out
shape_of-out c = wrote_length c.loop-i.invariant.words

pub returns : goal.returns
returns c =
    let e : c.loop-i.i ≡ c.args.rule.lines = omega arith in
    record { words = rw e at c.loop-i.invariant.words; few = omega (arith, c.loop-i.invariant.few) }
