-- `plan_unplaced::in_file::listed_in` meets its contract: a turn of the loop is a turn of the definition.
use mathlib.Core.Path.{◌≡◌}
use Rattle.plan_unplaced.specs.Left.{left_after}
use Rattle.plan_unplaced.specs.InFile.{kinds_in}
use Rattle.plan_unplaced.proofs.in_file.listed_in.Given as goal

abbrev pub invariant-loop-k : goal.invariant-loop-k
invariant-loop-k l = l.left ≡ left_after (kinds_in l.f l.m) l.flags l.k
