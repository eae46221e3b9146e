-- `plan_unplaced::in_file::flags_in` meets its contract: a turn of the loop stores the flag of one kind more.
use mathlib.Core.Path.{refl}
use native.Mathlib.Omega.{arith}
use native.Mathlib.Numerals.{add-one}
use Rattle.lists.specs.Table.{filled}
use Rattle.plan_unplaced.specs.Left.{short_kind}
use Rattle.plan_unplaced.specs.InFile.{kind_in_at}
use Rattle.plan_unplaced.proofs.in_file.flags_in.Goals as goal

pub loop-k-init : goal.loop-k-init
unfolding filled
loop-k-init c = refl

pub loop-k-preserved : goal.loop-k-preserved
unfolding filled short_kind
loop-k-preserved c =
    let l = c.loop-k in
    let a = c.args in
    let e = c.kind_in-kind.ensures in
    let q = kind_in_at a.f.now a.m l.k (omega arith) (omega arith) in
    rw (c.is_short.ensures, e, add-one, q, l.invariant)
