-- `line::put_name` meets its contract: three findings, one after the other.
use Rattle.std.proofs.Common.{arith}
use Rattle.check_words.specs.Writes.{wrote_then}
use Rattle.check_list.specs.Finding.{name_words, repeat_words}
use Rattle.check_list.proofs.line.put_name.Goals as goal

pub returns : goal.returns
unfolding name_words repeat_words
returns c =
    let k = c.write_if-p.ensures in
    let h = c.write_if-q.ensures in
    let g = c.write_if.ensures in (
      wrote_then (wrote_then (k.within (omega arith)) (h.within (omega (arith, k.few)))) (g.within (omega (arith, k.few, h.few))),
      omega (arith, g.few, h.few, k.few),
    )
