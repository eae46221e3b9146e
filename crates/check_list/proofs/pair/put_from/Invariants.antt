-- `pair::put_from` meets its contract: before the block from j on the pairs of i with the lines below j stand.
use Rattle.std.proofs.Common.{◌+◌, ◌*◌, ◌≤◌, ◌<◌, ◌-◌}
use Rattle.lists.specs.Below.{all_below}
use Rattle.check_words.specs.Wrote.{Wrote}
use Rattle.check_list.specs.View.{pair_found}
use Rattle.check_list.specs.Held.{boxes_in}
use Rattle.check_list.proofs.pair.put_from.Given as goal

abbrev pub invariant-loop-j : goal.invariant-loop-j
invariant-loop-j l =
    record {
      later : l.i < l.j;
      within : l.j ≤ l.n;
      few : l.p ≤ l.at + 5 * (l.j - (l.i + 1));
      words : Wrote l.initial.out l.at (all_below (pair_found (boxes_in l.rule l.which l.boxes) l.i) l.j) l.p l.out;
    }

abbrev pub decreases-loop-j : goal.decreases-loop-j
decreases-loop-j l = l.n - l.j
