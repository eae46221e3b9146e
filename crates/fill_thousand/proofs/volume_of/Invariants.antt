-- `volume_of` meets its contract: after i turns the sum is over the first i lines.
use Rattle.std.proofs.Common.{◌≡◌, ◌*◌, ◌≤◌}
use Rattle.lists.specs.Below.{sum_below}
use Rattle.file_read.specs.Reading.{sheet_of}
use Rattle.fill_thousand.specs.Fill.{most_solid, line_volume}
use Rattle.fill_thousand.proofs.volume_of.Given as goal

abbrev pub invariant-loop-i : goal.invariant-loop-i
invariant-loop-i l =
    record {
      most : l.t ≤ l.i * most_solid;
      sum_is : l.t ≡ sum_below (line_volume (sheet_of l.f).kinds l.m (sheet_of l.f).lines) l.i;
    }
