-- `plan_unplaced::in_file::flags_in` meets its contract: a turn of the loop stores the flag of one kind more.
use mathlib.Core.Path.{◌≡◌}
use mathlib.Core.Bool.{false}
use Rattle.lists.specs.Table.{table}
use Rattle.domain.specs.Bounds.{most_kinds}
use Rattle.plan_unplaced.specs.Left.{short_kind}
use Rattle.plan_unplaced.specs.InFile.{kinds_in}
use Rattle.plan_unplaced.proofs.in_file.flags_in.Given as goal

abbrev pub invariant-loop-k : goal.invariant-loop-k
invariant-loop-k l = l.flags ≡ table false most_kinds (short_kind (kinds_in l.f l.m) l.lines l.n) l.k
