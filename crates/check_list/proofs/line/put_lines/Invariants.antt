-- `line::put_lines` meets its contract: after i turns the findings of the first i lines stand.
use Rattle.std.proofs.Common.{◌*◌, ◌≤◌}
use Rattle.lists.specs.Below.{all_below}
use Rattle.check_words.specs.Wrote.{Wrote}
use Rattle.check_list.specs.View.{line_found}
use Rattle.check_list.specs.Held.{view_in}
use Rattle.check_list.proofs.line.put_lines.Given as goal

abbrev pub invariant-loop-i : goal.invariant-loop-i
invariant-loop-i l =
    record {
      few : l.p ≤ 30 * l.i;
      words : Wrote l.initial.out 0 (all_below (line_found (view_in l.f l.start l.again l.rule l.which l.boxes)) l.i) l.p l.out;
    }
