-- `left::put_wrong` meets its contract: after i turns the findings of the first i unplaced ids stand, and their kinds are marked.
use Prim.Native.Nat.{◌+◌, ◌*◌, ◌≤◌}
use Rattle.lists.specs.Below.{all_below}
use Rattle.file_read.specs.Reading.{sheet_of}
use Rattle.check_words.specs.Wrote.{Wrote}
use Rattle.check_packing.specs.Findings.{wrongly_listed}
use Rattle.check_packing.specs.Columns.{Listed}
use Rattle.check_packing.proofs.left.put_wrong.Given as goal

abbrev pub invariant-loop-i : goal.invariant-loop-i
invariant-loop-i l =
    record {
      few : l.p ≤ l.at + 5 * l.i;
      listed : Listed (sheet_of l.f) l.i l.seen;
      words : Wrote l.initial.out l.at (all_below (wrongly_listed (sheet_of l.f)) l.i) l.p l.out;
    }
