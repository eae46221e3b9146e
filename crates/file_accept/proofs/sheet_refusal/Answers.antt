-- `accept::sheet_refusal` meets its contract: the container, the kinds, then the lines.
use Rattle.std.proofs.Common.{◌∙◌, ap}
use Rattle.std.proofs.lemmas.Result.{err_from_is_err_and}
use Rattle.domain.specs.Refusal.{first_refuses, first_passes}
use Rattle.sheet.specs.declared.Counts.{Counts}
use Rattle.file_read.specs.Reading.{sheet_of}
use Rattle.file_read.specs.Records.{many_is, container_is}
use Rattle.file_accept.specs.Parts.{refusal_in_parts}
use Rattle.file_accept.proofs.sheet_refusal.Goals as goal

pub returns-in_err-refuse : goal.returns-in_err-refuse
returns-in_err-refuse c =
    let p = err_from_is_err_and c.from_residual.result c.from_residual.ensures.1 in
    let f = c.args.f.now in
    let b = c.container_in.ensures ∙ container_is f c.requires.0 in
    rw (p.1, p.2, ← (refusal_in_parts (sheet_of f) (rw many_is at c.requires.0.counts_right)))
    (first_refuses _ _ 0 tt tt _ (rw b at rw c.container_fault.ensures at c.in_err-refuse.ensures))

pub kinds_refusal-requires : goal.kinds_refusal-requires
kinds_refusal-requires c = (c.requires.0, ap (λ (m : Counts). m.kinds) c.requires.1.0)

pub returns-in_err-kinds_refusal : goal.returns-in_err-kinds_refusal
returns-in_err-kinds_refusal c =
    let p = err_from_is_err_and c.from_residual-in_err-kinds_refusal.result c.from_residual-in_err-kinds_refusal.ensures.1 in
    let f = c.args.f.now in
    let b = c.container_in.ensures ∙ container_is f c.requires.0 in
    rw (p.1, p.2, ← (refusal_in_parts (sheet_of f) (rw many_is at c.requires.0.counts_right)))
    (first_refuses _ _ 0 tt tt _ c.in_err-kinds_refusal.ensures
    ∙ first_passes _ _ 0 tt tt tt (rw b at rw c.container_fault.ensures at c.in_ok-refuse.ensures))

pub lines_refusal-requires : goal.lines_refusal-requires
lines_refusal-requires c = (c.requires.0, (c.requires.1.1, ap (λ (m : Counts). m.lines) c.requires.1.0))

pub returns : goal.returns
returns c =
    let f = c.args.f.now in
    let b = c.container_in.ensures ∙ container_is f c.requires.0 in
    let n = ap (λ (m : Counts). m.lines) (c.requires.1.0 ∙ many_is f) in
    rw (← (refusal_in_parts (sheet_of f) (rw many_is at c.requires.0.counts_right)))
    (rw n at c.lines_refusal.ensures
    ∙ first_passes _ _ 0 tt tt tt c.in_ok-kinds_refusal.ensures
    ∙ first_passes _ _ 0 tt tt tt (rw b at rw c.container_fault.ensures at c.in_ok-refuse.ensures))
