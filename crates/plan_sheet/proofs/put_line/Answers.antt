-- `plan_sheet::put_line` meets its contract: six stores at neighbouring places.
use mathlib.Core.Path.{◌∙◌}
use native.Mathlib.Omega.{arith}
use lib.ListN.{length-set}
use Rattle.plan_sheet.specs.Hand.{six_sets}
use Rattle.plan_sheet.proofs.put_line.Goals as goal

pub returns : goal.returns
returns c =
    let a = c.args in
    six_sets a.out.now a.at a.l.id a.l.instance a.l.orientation c.bits_of-x.result
    c.bits_of-y.result c.bits_of-z.result
    ∙ rw (c.bits_of-z.ensures, c.bits_of-y.ensures, c.bits_of-x.ensures)

pub bounds-out-at-2 : goal.bounds-out-at-2
bounds-out-at-2 c = simp length-set (omega arith)

pub bounds-out-at-3 : goal.bounds-out-at-3
bounds-out-at-3 c = simp length-set (omega arith)

pub bounds-out-at-4 : goal.bounds-out-at-4
bounds-out-at-4 c = simp length-set (omega arith)

pub bounds-out-at-5 : goal.bounds-out-at-5
bounds-out-at-5 c = simp length-set (omega arith)

pub bounds-out-at-6 : goal.bounds-out-at-6
bounds-out-at-6 c = simp length-set (omega arith)

pub shape_of-out : goal.shape_of-out
shape_of-out c = simp length-set
