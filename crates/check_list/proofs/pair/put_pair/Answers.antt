-- `pair::put_pair` meets its contract: past the last cell the finding is counted, else the verdict is written.
use Rattle.std.proofs.Common.{◌∙◌}
use Rattle.check_pair.specs.Pair.{verdict_of}
use Rattle.check_pair.proofs.Told.{found_is}
use Rattle.check_words.specs.Writes.{wrote_length}
use Rattle.check_list.proofs.Counted.{counted_past}
use Rattle.check_list.proofs.pair.put_pair.Goals as goal

pub returns-then-out-at : goal.returns-then-out-at
returns-then-out-at c =
    let a = c.args in
    let e = c.is_found.ensures ∙ found_is _ _ _ _ c.requires.fair in
    rw (c.counted.ensures, e)
    (counted_past a.out.now a.at a.i a.j a.clearance.asked a.known (verdict_of a.a a.b a.clearance.asked a.clearance.slack) c.if-out-at.true)

pub shape_of-out : goal.shape_of-out
shape_of-out c = wrote_length c.put_verdict.ensures.0

pub returns : goal.returns
returns c = rw c.judge-v.ensures at c.put_verdict.ensures
