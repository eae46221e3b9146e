-- `put_if` meets its contract in each of its three cases.
use native.Mathlib.Omega.{arith}
use Rattle.check_words.specs.Writes.{wrote_none}
use Rattle.check_words.proofs.put_if.Goals as goal

pub returns-then-at-ge-MOST_WORDS : goal.returns-then-at-ge-MOST_WORDS
returns-then-at-ge-MOST_WORDS c = record { within = λ l. absurd (omega arith); past = λ m. wrote_none _ _; few = omega arith }

pub returns-then-on : goal.returns-then-on
returns-then-on c =
    record {
      within = λ l. rw c.if-on.true c.put.ensures;
      past = λ m. absurd (omega arith);
      few = omega arith;
    }

pub returns : goal.returns
returns c = record { within = λ l. rw c.if-on.false (wrote_none _ _); past = λ m. absurd (omega arith); few = omega arith }
