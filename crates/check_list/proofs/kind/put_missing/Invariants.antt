-- `kind::put_missing` meets its contract: after k turns the findings of the first k kinds stand.
use Rattle.std.proofs.Common.{◌+◌, ◌*◌, ◌≤◌}
use Rattle.lists.specs.Below.{all_below}
use Rattle.check_words.specs.Wrote.{Wrote}
use Rattle.check_list.specs.Held.{lost_in}
use Rattle.check_list.proofs.kind.put_missing.Given as goal

abbrev pub invariant-loop-k : goal.invariant-loop-k
invariant-loop-k l =
    record {
      few : l.p ≤ l.at + 5 * l.k;
      words : Wrote l.initial.out l.at (all_below (lost_in l.ids l.short l.listed) l.k) l.p l.out;
    }
