-- `pair::put_pairs` meets its contract: after i turns the pairs of the first i lines stand.
use Rattle.std.proofs.Common.{◌-◌}
use Rattle.lists.specs.Below.{all_below}
use Rattle.check_words.specs.Wrote.{Wrote}
use Rattle.check_list.specs.View.{pairs_found}
use Rattle.check_list.specs.Held.{boxes_in}
use Rattle.check_list.proofs.Pairs.{Enough}
use Rattle.check_list.proofs.pair.put_pairs.Given as goal

abbrev pub invariant-loop-i : goal.invariant-loop-i
invariant-loop-i l =
    record {
      enough : Enough l.at l.n (l.n - l.i) l.p;
      words : Wrote l.initial.out l.at (all_below (pairs_found (boxes_in l.rule l.which l.boxes)) l.i) l.p l.out;
    }
