-- `wk_fill` meets its contract: the refusal of the file or of its fill, or the fill stored.
use Rattle.std.proofs.Common.{◌∙◌}
use Rattle.waikurpeho.specs.Fill.{fill_refused, fill_stays, fill_told, fill_stored}
use Rattle.waikurpeho.proofs.wk_fill.Goals as goal

pub returns-in-Ok : goal.returns-in-Ok
returns-in-Ok c =
    let e = c.in-Ok.ensures in
    (c.word_of.ensures ∙ fill_told c.args.sheet.now c.in-Ok.thousandths e, fill_stored c.args.sheet.now c.args.fill.now c.in-Ok.thousandths e)

pub returns-in-Err : goal.returns-in-Err
returns-in-Err c =
    let e = c.in-Err.ensures in
    (c.word_of-in-Err.ensures ∙ rw c.number.ensures (fill_refused c.args.sheet.now c.in-Err.refusal e), fill_stays c.args.sheet.now c.args.fill.now c.in-Err.refusal e)
