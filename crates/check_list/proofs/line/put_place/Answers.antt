-- `line::put_place` meets its contract: three findings, one after the other.
use Rattle.std.proofs.Common.{arith}
use Rattle.check_words.specs.Writes.{wrote_then}
use Rattle.check_list.specs.Finding.{place_words}
use Rattle.check_list.proofs.line.put_place.Goals as goal

pub returns : goal.returns
unfolding place_words
returns c =
    let k = c.write_if-p.ensures in
    let h = c.write_if-q.ensures in
    let g = c.write_if.ensures in
    let a = c.requires.0 in (
      rw (← c.allowed_orientations.ensures, ← c.requires.1, ← c.inside.ensures)
          (wrote_then (k.within (omega (arith, a))) (wrote_then (h.within (omega (arith, a, k.few))) (g.within (omega (arith, a, k.few, h.few))))),
      omega (arith, g.few, h.few, k.few),
    )
