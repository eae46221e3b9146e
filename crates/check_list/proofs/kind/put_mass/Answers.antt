-- `kind::put_mass` meets its contract.
use Rattle.std.proofs.Common.{arith}
use Rattle.check_list.specs.Finding.{mass_words}
use Rattle.check_list.proofs.kind.put_mass.Goals as goal

pub returns : goal.returns
unfolding mass_words
returns c = (c.write_if.ensures.within (omega arith), c.write_if.ensures.few)
