-- `plan_file::plan_long` meets its contract: what is written of the plan laid in the lines is the planned sheet.
use Rattle.std.proofs.Common.{le_refl, arith}
use Rattle.domain.specs.Bounds.{most_lines}
use Rattle.plan_file.specs.Laid.{long_written, long_refused}
use Rattle.plan_file.proofs.plan_long.Goals as goal

pub returns-in-Ok : goal.returns-in-Ok
returns-in-Ok g c =
    let a = c.args in
    let p = g.met.P.Placer in
    long_written g.P.Placer.plan_of a.order.now (λ i. omega (arith, c.type_inv.order i)) a.consider (p.is_modest a.order.now a.consider)
    (p.is_sound a.order.now a.consider) _ _ _ _ _ _ _ _ (le_refl most_lines) c.in-Ok.ensures c.write_laid.ensures

pub returns-in-Err : goal.returns-in-Err
returns-in-Err g c =
    let a = c.args in
    let p = g.met.P.Placer in
    rw (c.word_of.ensures, c.number.ensures)
    (long_refused g.P.Placer.plan_of a.order.now (λ i. omega (arith, c.type_inv.order i)) a.consider (p.is_modest a.order.now a.consider)
    (p.is_sound a.order.now a.consider) _ _ _ _ _ (le_refl most_lines) c.in-Err.ensures)
