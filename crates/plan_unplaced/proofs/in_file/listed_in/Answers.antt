-- `plan_unplaced::in_file::listed_in` meets its contract: a turn of the loop is a turn of the definition.
use Prim.Native.Nat.{◌≤◌}
use mathlib.Core.Path.{refl}
use native.Mathlib.Omega.{arith}
use native.Mathlib.Numerals.{add-one}
use Rattle.plan_unplaced.specs.Left.{left_after, left_few}
use Rattle.plan_unplaced.specs.InFile.{kinds_in, kind_in_at}
use Rattle.plan_unplaced.proofs.in_file.listed_in.Goals as goal

pub loop-k-init : goal.loop-k-init
unfolding left_after
loop-k-init c = refl

pub push_if-left-requires : goal.push_if-left-requires
push_if-left-requires c =
    let l = c.loop-k in
    let a = c.args in
    let h : l.left.count ≤ l.k = rw l.invariant (left_few (kinds_in a.f.now a.m) a.flags.now l.k) in
    omega arith

pub loop-k-preserved : goal.loop-k-preserved
unfolding left_after
loop-k-preserved c =
    let l = c.loop-k in
    let a = c.args in
    let e = c.kind_in-kind.ensures in
    let q = kind_in_at a.f.now a.m l.k (omega arith) (omega arith) in
    rw (c.push_if-left.ensures, e, add-one, q, l.invariant)
