-- `Scaled::normal` meets its contract: four times the number and one power of four less are the same; m is below 2 ^ 54, so the powers do not run out.
use Rattle.std.proofs.Common.{◌≡◌, ◌<◌, ◌≤◌, ◌*◌, ◌^◌}
use Rattle.check_root.proofs.Scaled.normal.Given as goal

abbrev pub invariant-loop-m : goal.invariant-loop-m
invariant-loop-m l =
    record {
      value : l.m * 4 ^ l.g ≡ l.initial.m * 4 ^ l.initial.g;
      some : 0 < l.m;
      digits : l.m < 2 ^ 54;
      low : 510 < l.g;
      high : l.g ≤ l.initial.g;
    }

abbrev pub decreases-loop-m : goal.decreases-loop-m
decreases-loop-m l = l.g
