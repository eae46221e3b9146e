-- `replay_results::same_numbers`: a turn of the loop is a turn of the definition.
use Rattle.std.proofs.Common.{◌≡◌}
use Rattle.replay_sample.specs.Places.{further}
use Rattle.replay_results.specs.Results.{same_numbers}
use Rattle.replay_results.proofs.same_numbers.Given as goal

abbrev pub invariant-loop-i : goal.invariant-loop-i
invariant-loop-i l =
    record {
      at : l.from ≡ record l.initial.from { at = further l.initial.from.at 4 l.i };
      same : l.same ≡ same_numbers l.initial.from.bytes.now l.initial.from.at l.list l.i;
    }
