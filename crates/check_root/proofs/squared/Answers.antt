-- `squared` meets its contract: two digits of 26 bits, multiplied out.
use Rattle.check_root.specs.Powers.{digits_square}
use Rattle.check_root.proofs.squared.Goals as goal

pub returns-clause-value : goal.returns-clause-value
returns-clause-value c = digits_square c.args.k
