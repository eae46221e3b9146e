-- `wk_check` meets its contract: what the checker answers, in one word.
use Rattle.std.proofs.Common.{◌<◌, sym, ◌∙◌, subst, arith}
use Rattle.domain.specs.Refusal.{needed_of}
use Rattle.answer_word.specs.Answer.{unit, Fits}
use Rattle.waikurpeho.specs.Check.{check_answer, check_cells}
use Rattle.waikurpeho.specs.Few.{file_few}
use Rattle.waikurpeho.proofs.wk_check.Goals as goal

pub overflow_cast-count : goal.overflow_cast-count
overflow_cast-count c =
    let h : c.in-Ok.count < unit = subst Fits (sym c.check_packing.ensures.told ∙ c.in-Ok.is) (file_few c.args.sheet.now c.args.findings.now) in
    record { fits = omega arith }

pub overflow_cast-needed : goal.overflow_cast-needed
overflow_cast-needed c =
    let h : needed_of c.in-Err.refusal < unit = subst Fits (sym c.check_packing.ensures.told ∙ c.in-Err.is) (file_few c.args.sheet.now c.args.findings.now) in
    let e = c.needed.ensures in
    record { fits = omega arith }

pub returns-in-Ok : goal.returns-in-Ok
unfolding check_answer check_cells
returns-in-Ok c =
    let q = sym c.check_packing.ensures.told ∙ c.in-Ok.is in
    (c.word_of.ensures ∙ rw q, c.check_packing.ensures.cells)

pub returns-in-Err : goal.returns-in-Err
unfolding check_answer check_cells
returns-in-Err c =
    let q = sym c.check_packing.ensures.told ∙ c.in-Err.is in
    (c.word_of-in-Err.ensures ∙ rw (c.number.ensures, c.needed.ensures, q), c.check_packing.ensures.cells)
