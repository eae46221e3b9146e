-- `pair::quick_of` meets its contract: each part is the call's own.
use mathlib.Core.Path.{◌∙◌}
use Rattle.check_pair.proofs.Told.{fair_past}
use Rattle.check_list.proofs.pair.quick_of.Goals as goal

pub returns : goal.returns
returns c =
    record {
      limit_is = c.limit-limit.ensures;
      reach_is = c.reach_of.ensures ∙ rw c.limit-limit.ensures;
      fair = rw c.close_of.ensures (fair_past c.args.counts c.args.clearance.asked c.args.clearance.slack);
    }
