-- `replay_results::same_lines`: a turn of the loop is a turn of the definition.
use Rattle.std.proofs.Common.{◌≡◌}
use Rattle.replay_sample.specs.Places.{further}
use Rattle.replay_results.specs.Results.{same_lines}
use Rattle.replay_results.proofs.same_lines.Given as goal

abbrev pub invariant-loop-i : goal.invariant-loop-i
invariant-loop-i l =
    record {
      at : l.from ≡ record l.initial.from { at = further l.initial.from.at 36 l.i };
      same : l.same ≡ same_lines l.initial.from.bytes.now l.initial.from.at l.words l.i;
    }
