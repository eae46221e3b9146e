-- `put_lines` meets its contract: nothing without lines, else what columns of one size or another give.
use Rattle.std.proofs.Common.{arith}
use Rattle.check_words.specs.Writes.{wrote_none}
use Rattle.check_packing.proofs.Read.{few_boxes}
use Rattle.check_packing.proofs.Holds.{no_lines, no_mass, none_packed}
use Rattle.check_packing.proofs.put_lines.Goals as goal

pub returns-then-a-eq0 : goal.returns-then-a-eq0
returns-then-a-eq0 c =
    let t = c.requires.ready.0 in
    let e = c.if-a-eq0.true in
    record {
      put = record { words = rw (no_lines _ _ t e) (wrote_none _ _); few = omega arith };
      mass_is = no_mass _ _ t e;
      packed_are = none_packed _ _ t e c.requires.ready.1.1.1;
    }

pub put_within-requires-clause-boxes : goal.put_within-requires-clause-boxes
put_within-requires-clause-boxes c = few_boxes _ _ c.requires.ready.0
