-- `read_sheet` meets its contract: shape, counts, then what the sheet is refused for.
use Rattle.std.proofs.Common.{◌∙◌, sym}
use Rattle.std.proofs.lemmas.Result.{err_from_is_err_and}
use Rattle.domain.specs.Refusal.{refused_as, no_refusal, no_number}
use Rattle.file_read.specs.Reading.{read_of}
use Rattle.file_read.specs.Refusal.{sheet_decides, asked_wrong, asked_over, asked_few}
use Rattle.file_read.specs.Records.{Right, right_says}
use Rattle.file_read.proofs.read_sheet.Goals as goal
use Rattle.file_read.proofs.read_sheet.Goals.{In_ok-sections}

right : (c : In_ok-sections) → Right c.args.f.now c.in_ok-sections.sections
right c = right_says _ _ (sym c.in_ok-sections.ensures.ok_part ∙ c.sections_of.ensures)

pub returns-in_err-sections : goal.returns-in_err-sections
unfolding read_of
returns-in_err-sections c =
    let p = err_from_is_err_and c.from_residual.result c.from_residual.ensures.1 in
    rw (p.1, p.2) (asked_wrong _ _ _ _ c.sections_of.ensures c.in_err-sections.ensures.value)

pub returns-in_err-refuse : goal.returns-in_err-refuse
unfolding read_of
returns-in_err-refuse c =
    let p = err_from_is_err_and c.from_residual-in_err-refuse.result c.from_residual-in_err-refuse.ensures.1 in
    rw (p.1, p.2)
    (asked_over _ c.in_ok-sections.sections _ _ _ (right (goal.at.returns-in_err-refuse c).In_ok-sections) c.over_count.ensures c.in_err-refuse.ensures)

pub sheet_of-s-requires : goal.sheet_of-s-requires
sheet_of-s-requires c =
    let r = right (goal.at.sheet_of-s-requires c).In_ok-sections in
    let k = asked_few _ c.in_ok-sections.sections _ r c.over_count.ensures c.in_ok-refuse.ensures in
    (k, (r.many_are, (r.start_is, r.end_is)))

pub returns-in_err-sheet_refusal : goal.returns-in_err-sheet_refusal
unfolding read_of
returns-in_err-sheet_refusal c =
    let p = err_from_is_err_and c.from_residual-in_err-sheet_refusal.result c.from_residual-in_err-sheet_refusal.ensures.1 in
    let r = right (goal.at.returns-in_err-sheet_refusal c).In_ok-sections in
    rw (p.1, p.2)
    (rw (sheet_decides c.args.f.now r.shape) (refused_as _ 0 tt _ _ (rw c.sheet_of-s.ensures at c.in_err-sheet_refusal.ensures)))

pub returns : goal.returns
unfolding read_of
returns c =
    let r = right (goal.at.returns c).In_ok-sections in
    rw c.sheet_of-s.ensures
    (rw (sheet_decides c.args.f.now r.shape) (no_number _ 0 _ (no_refusal _ 0 tt tt (rw c.sheet_of-s.ensures at c.in_ok-sheet_refusal.ensures))))
