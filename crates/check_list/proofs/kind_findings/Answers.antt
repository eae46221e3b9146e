-- `kind_findings` meets its contract: nothing past the words of the lines, else the mass and then the kinds.
use native.Mathlib.Omega.{arith}
use Rattle.sheet.specs.Accepted.{Few}
use Rattle.check_words.specs.Writes.{wrote_none, wrote_then}
use Rattle.check_list.specs.View.{fair_few}
use Rattle.check_list.specs.Held.{kinds_in}
use Rattle.check_list.proofs.kind_findings.Goals as goal
use Rattle.check_list.proofs.kind_findings.Goals.{After-fair-many}

few : (c : After-fair-many) → Few c.fair-many.result
few c = rw c.fair-many.ensures (fair_few c.args.counts)

pub returns-then-at-gt-LINE_WORDS : goal.returns-then-at-gt-LINE_WORDS
returns-then-at-gt-LINE_WORDS c = record { within = λ l. absurd (omega arith); past = λ l. wrote_none _ _ }

pub put_missing-requires : goal.put_missing-requires
put_missing-requires c =
    record {
      few = (few (goal.at.put_missing-requires c).After-fair-many).kinds;
      room = omega (arith, c.put_mass-q.ensures.1, c.if-at-gt-LINE_WORDS.false);
    }

pub returns : goal.returns
unfolding kinds_in
returns c =
    let e = c.fair-many.ensures in
    record {
      within =
          λ l.
          record {
            words = wrote_then (rw c.tolerance-t.ensures at c.put_mass-q.ensures.0) (rw e at c.put_missing.ensures.words);
            few = rw (← e) (omega (arith, c.put_missing.ensures.few, c.put_mass-q.ensures.1));
          };
      past = λ l. absurd (omega (arith, c.if-at-gt-LINE_WORDS.false));
    }
