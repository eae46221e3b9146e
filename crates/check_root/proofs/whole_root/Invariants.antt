-- `whole_root` meets its contract: each turn takes the next two digits of the number.
use Rattle.std.proofs.Common.{◌≡◌, ◌≤◌, ◌+◌, ◌-◌, ◌*◌, ◌/◌, ◌^◌}
use Rattle.check_root.proofs.whole_root.Given as goal

abbrev pub invariant-loop-i : goal.invariant-loop-i
invariant-loop-i l = record { value : l.p.0 * l.p.0 + l.p.1.0 ≡ l.m / 2 ^ (54 - 2 * l.i); left : l.p.1.0 ≤ 2 * l.p.0 }
