-- `pair::put_verdict` meets its contract in each of the verdict's cases.
use Rattle.check_words.specs.Writes.{wrote_none, only_nothing}
use Rattle.check_list.specs.Finding.{verdict_words}
use native.Mathlib.Omega.{arith}
use Rattle.check_list.proofs.pair.put_verdict.Goals as goal

pub returns-in-Apart : goal.returns-in-Apart
unfolding verdict_words
returns-in-Apart c = (rw (c.in-Apart.is, only_nothing c.args.known) (wrote_none _ _), omega arith)

pub returns-in-Overlap : goal.returns-in-Overlap
unfolding verdict_words
returns-in-Overlap c =
    (rw c.in-Overlap.is (c.write_if.ensures.within (omega arith)), c.write_if.ensures.few)

pub returns-in-TooClose : goal.returns-in-TooClose
unfolding verdict_words
returns-in-TooClose c =
    (rw c.in-TooClose.is (c.write_if-in-TooClose.ensures.within (omega arith)), c.write_if-in-TooClose.ensures.few)
