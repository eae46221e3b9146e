-- `plan_file::plan_short` meets its contract: what is written of the plan laid in the lines is the planned sheet, or as many lines do as there may be.
use Rattle.std.proofs.Common.{arith}
use Rattle.plan_file.specs.Laid.{few_written, few_refused}
use Rattle.plan_file.proofs.plan_short.Goals as goal

pub returns-in-Ok : goal.returns-in-Ok
returns-in-Ok g c =
    let a = c.args in
    let p = g.met.P.Placer in
    few_written g.P.Placer.plan_of a.order.now (λ i. omega (arith, c.type_inv.order i)) a.consider (p.is_modest a.order.now a.consider)
    (p.is_sound a.order.now a.consider) _ _ _ _ _ _ _ _ c.in-Ok.ensures c.write_laid.ensures

pub returns-in_default : goal.returns-in_default
returns-in_default g c =
    let a = c.args in
    let p = g.met.P.Placer in
    rw (c.word_of.ensures, c.number.ensures)
    (few_refused g.P.Placer.plan_of a.order.now (λ i. omega (arith, c.type_inv.order i)) a.consider (p.is_modest a.order.now a.consider)
    (p.is_sound a.order.now a.consider) _ _ _ _ _ c.in_default.not-Room c.in-Err.ensures)
