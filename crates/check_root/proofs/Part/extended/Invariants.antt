-- `Part::extended` meets its contract: each turn is one more digit, with zeros for the number's.
use Rattle.std.proofs.Common.{◌≡◌, ◌+◌, ◌<◌, ◌*◌, ◌^◌}
use Rattle.check_root.proofs.Part.extended.Given as goal

abbrev pub invariant-loop-i : goal.invariant-loop-i
invariant-loop-i l =
    record {
      value : l.p.q * l.p.q + l.p.r ≡ (l.initial.p.q * l.initial.p.q + l.initial.p.r) * 4 ^ l._i;
      digits : l.p.q < 2 ^ 27 * 2 ^ l._i;
    }
