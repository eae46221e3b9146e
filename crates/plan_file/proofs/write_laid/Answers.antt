-- `plan_file::write_laid` meets its contract: the length or the refusal in one word, and the figures where the file is written.
use Rattle.std.proofs.Common.{arith}
use Rattle.plan_file.specs.Laid.{length_fits, needed_fits, laid_told, laid_refused}
use Rattle.plan_file.proofs.write_laid.Goals as goal

pub overflow_cast-length : goal.overflow_cast-length
overflow_cast-length c =
    let a = c.args in
    let h = length_fits a.order.now a.told a.lines.now a.sheet.now _ _ c.in-Ok.length c.write_lines.ensures c.in-Ok.is in
    record { fits = omega arith }

pub overflow_cast-needed : goal.overflow_cast-needed
overflow_cast-needed c =
    let a = c.args in
    let h = needed_fits a.order.now a.told a.lines.now a.sheet.now _ _ c.in-Err.refusal c.write_lines.ensures c.in-Err.is in
    let e = c.needed.ensures in
    record { fits = omega arith }

pub returns-in-Ok : goal.returns-in-Ok
returns-in-Ok c =
    let a = c.args in
    rw (c.word_of.ensures, c.bits_of.ensures)
    (laid_told a.order.now a.told a.lines.now a.sheet.now _ _ a.figures.now c.in-Ok.length c.write_lines.ensures c.in-Ok.is)

pub returns-in-Err : goal.returns-in-Err
returns-in-Err c =
    let a = c.args in
    rw (c.word_of-in-Err.ensures, c.number.ensures, c.needed.ensures)
    (laid_refused a.order.now a.told a.lines.now a.sheet.now _ _ a.figures.now c.in-Err.refusal c.write_lines.ensures c.in-Err.is)
