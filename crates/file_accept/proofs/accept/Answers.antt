-- `accept` meets its contract: shape, counts, then what the sheet is refused for.
use Rattle.std.proofs.Common.{◌≡◌, ◌∙◌, sym, List, ℕ, Ok}
use Rattle.std.proofs.lemmas.Result.{err_from_is_err_and}
use Rattle.domain.specs.Refusal.{refused_as, no_refusal, no_number}
use Rattle.sheet.specs.declared.Counts.{Counts}
use Rattle.file_read.specs.Form.{lines_start, unplaced_start, counts_of}
use Rattle.file_read.specs.Reading.{refusal_of}
use Rattle.file_read.specs.Refusal.{sheet_decides, asked_wrong, asked_over, asked_few}
use Rattle.file_read.specs.Records.{Right, right_says, many_is}
use Rattle.file_accept.specs.Accept.{accept_of}
use Rattle.file_accept.proofs.accept.Goals as goal
use Rattle.file_accept.proofs.accept.Goals.{In_ok-sections}

right : (c : In_ok-sections) → Right c.args.f.now c.in_ok-sections.sections
right c = right_says _ _ (sym c.in_ok-sections.ensures.ok_part ∙ c.sections_of.ensures)

pub returns-in_err-sections : goal.returns-in_err-sections
returns-in_err-sections c =
    let p = err_from_is_err_and c.from_residual.result c.from_residual.ensures.1 in
    rw (p.1, p.2) (asked_wrong _ _ _ _ c.sections_of.ensures c.in_err-sections.ensures.value)

pub returns-in_err-refuse : goal.returns-in_err-refuse
returns-in_err-refuse c =
    let p = err_from_is_err_and c.from_residual-in_err-refuse.result c.from_residual-in_err-refuse.ensures.1 in
    rw (p.1, p.2)
    (asked_over _ c.in_ok-sections.sections _ _ _ (right (goal.at.returns-in_err-refuse c).In_ok-sections) c.over_count.ensures c.in_err-refuse.ensures)

pub sheet_refusal-requires : goal.sheet_refusal-requires
sheet_refusal-requires c =
    let r = right (goal.at.sheet_refusal-requires c).In_ok-sections in
    let k = asked_few _ c.in_ok-sections.sections _ r c.over_count.ensures c.in_ok-refuse.ensures in
    (k, (r.many_are, r.start_is))

pub returns-in_err-sheet_refusal : goal.returns-in_err-sheet_refusal
returns-in_err-sheet_refusal c =
    let p = err_from_is_err_and c.from_residual-in_err-sheet_refusal.result c.from_residual-in_err-sheet_refusal.ensures.1 in
    let r = right (goal.at.returns-in_err-sheet_refusal c).In_ok-sections in
    rw (p.1, p.2) (rw (sheet_decides c.args.f.now r.shape) (refused_as _ 0 tt _ _ c.in_err-sheet_refusal.ensures))

-- what was read is what an accepted file gets
taken_is : (f : List ℕ) (m : Counts) (s e : ℕ) → m ≡ counts_of f → s ≡ lines_start f → e ≡ unplaced_start f → refusal_of f ≡ 0
    → Ok (record { kinds = m.kinds; lines = m.lines; unplaced = m.unplaced; start = s; end = e }) ≡ accept_of f
taken_is f m s e em es ee r = rw (em ∙ many_is f, es, ee) (no_number (refusal_of f) 0 _ r)

pub returns : goal.returns
returns c =
    let r = right (goal.at.returns c).In_ok-sections in
    taken_is _ _ _ _ r.many_are r.start_is r.end_is (sheet_decides c.args.f.now r.shape ∙ no_refusal _ 0 tt tt c.in_ok-sheet_refusal.ensures)
