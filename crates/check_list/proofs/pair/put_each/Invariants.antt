-- `pair::put_each` meets its contract: before the turn for line j the pairs of i with the lines below j stand.
use Rattle.std.proofs.Common.{◌≡◌, ℕ, ◌+◌, ◌*◌, ◌≤◌, ◌-◌, List, length}
use Rattle.lists.specs.Below.{all_below}
use Rattle.check_words.specs.Wrote.{Wrote}
use Rattle.check_list.specs.View.{pair_found}
use Rattle.check_list.specs.Held.{boxes_in}
use Rattle.check_list.proofs.pair.put_each.Given as goal

abbrev pub invariant-loop-j : goal.invariant-loop-j
invariant-loop-j l =
    record {
      few : l.p ≤ l.at + 5 * (l.j - l.from);
      as_long : length l.out ≡ length l.initial.out;
      words : (b : List ℕ) (q : ℕ) → Wrote b q (all_below (pair_found (boxes_in l.fn.rule l.which l.boxes) l.i) l.from) l.at l.initial.out
          → Wrote b q (all_below (pair_found (boxes_in l.fn.rule l.which l.boxes) l.i) l.j) l.p l.out;
    }
