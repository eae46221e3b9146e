-- `sheet::sheet_refusal` meets its contract: the refusals in their order, each as the definition has it.
use Rattle.std.proofs.Common.{◌≡◌, ◌≤◌, ◌∙◌, sym, ap, length, rules, arith}
use Rattle.std.proofs.lemmas.Result.{err_from_is_err_and}
use Rattle.domain.specs.Refusal.{answer_of, first_refuses, first_passes, no_refusal}
use Rattle.domain.specs.Laws.{when_none}
use Rattle.sheet.specs.Sheets.{sheet_refusal}
use Rattle.sheet.specs.Accepted.{Few, few}
use Rattle.sheet.specs.Firsts.{first_kinds, first_quantities, first_lines}
use Rattle.sheet.proofs.sheet_refusal.Goals as goal
use Rattle.sheet.proofs.sheet_refusal.Goals.{In_ok-refuse}

-- past the first test the counts are within their bounds
known : (c : In_ok-refuse) → Few c.args.s.many
known c = few _ (sym c.over_count.ensures ∙ when_none c.over_count.result 1 (no_refusal _ 0 tt tt c.in_ok-refuse.ensures))

few_kinds : (c : In_ok-refuse) → c.args.s.many.kinds ≤ length c.args.s.kinds
few_kinds c = let f = known c in let h : length c.args.s.kinds ≡ 64 = search rules in omega arith

few_lines : (c : In_ok-refuse) → c.args.s.many.lines ≤ length c.args.s.lines
few_lines c = let f = known c in let h : length c.args.s.lines ≡ 1024 = search rules in omega arith

pub returns-in_err-refuse : goal.returns-in_err-refuse
unfolding sheet_refusal
returns-in_err-refuse c =
    let p = err_from_is_err_and c.from_residual.result c.from_residual.ensures.1 in
    rw (p.1, p.2) (first_refuses _ _ 0 tt tt _ (rw c.over_count.ensures at c.in_err-refuse.ensures))

pub returns-in_err-refuse-2 : goal.returns-in_err-refuse-2
unfolding sheet_refusal
returns-in_err-refuse-2 c =
    let p = err_from_is_err_and c.from_residual-in_err-refuse-2.result c.from_residual-in_err-refuse-2.ensures.1 in
    rw (p.1, p.2)
    (first_refuses _ _ 0 tt tt _ (rw c.container_fault.ensures at c.in_err-refuse-2.ensures)
    ∙ first_passes _ _ 0 tt tt tt (rw c.over_count.ensures at c.in_ok-refuse.ensures))

pub shared_ref_as_front-kinds : goal.shared_ref_as_front-kinds
shared_ref_as_front-kinds c = (known (goal.at.shared_ref_as_front-kinds c).In_ok-refuse).kinds

pub returns-in_err-kinds_fault : goal.returns-in_err-kinds_fault
unfolding sheet_refusal
returns-in_err-kinds_fault c =
    let p = err_from_is_err_and c.from_residual-in_err-kinds_fault.result c.from_residual-in_err-kinds_fault.ensures.1 in
    let few = few_kinds (goal.at.returns-in_err-kinds_fault c).In_ok-refuse in
    rw (p.1, p.2)
    (first_refuses _ _ 0 tt tt _ (rw (first_kinds c.args.s.kinds c.args.s.many.kinds few) at c.in_err-kinds_fault.ensures)
    ∙ first_passes _ _ 0 tt tt tt (rw c.container_fault.ensures at c.in_ok-refuse-2.ensures)
    ∙ first_passes _ _ 0 tt tt tt (rw c.over_count.ensures at c.in_ok-refuse.ensures))

pub returns-in_err-refuse-3 : goal.returns-in_err-refuse-3
unfolding sheet_refusal
returns-in_err-refuse-3 c =
    let p = err_from_is_err_and c.from_residual-in_err-refuse-3.result c.from_residual-in_err-refuse-3.ensures.1 in
    let few = few_kinds (goal.at.returns-in_err-refuse-3 c).In_ok-refuse in
    let total = c.total_quantity.ensures ∙ first_quantities c.args.s.kinds c.args.s.many.kinds few in
    rw (p.1, p.2)
    (first_refuses _ _ 0 tt tt _ (rw total at c.in_err-refuse-3.ensures)
    ∙ first_passes _ _ 0 tt tt tt (rw (first_kinds c.args.s.kinds c.args.s.many.kinds few) at c.in_ok-kinds_fault.ensures)
    ∙ first_passes _ _ 0 tt tt tt (rw c.container_fault.ensures at c.in_ok-refuse-2.ensures)
    ∙ first_passes _ _ 0 tt tt tt (rw c.over_count.ensures at c.in_ok-refuse.ensures))

pub shared_ref_as_front-lines_fault : goal.shared_ref_as_front-lines_fault
shared_ref_as_front-lines_fault c = (known (goal.at.shared_ref_as_front-lines_fault c).In_ok-refuse).lines

pub returns : goal.returns
unfolding sheet_refusal
returns c =
    let place = (goal.at.returns c).In_ok-refuse in
    let few = few_kinds place in
    let total = c.total_quantity.ensures ∙ first_quantities c.args.s.kinds c.args.s.many.kinds few in
    c.lines_fault.ensures
    ∙ ap (λ n. answer_of n tt) (first_lines c.args.s.lines c.args.s.many.lines (few_lines place))
    ∙ first_passes _ _ 0 tt tt tt (rw total at c.in_ok-refuse-3.ensures)
    ∙ first_passes _ _ 0 tt tt tt (rw (first_kinds c.args.s.kinds c.args.s.many.kinds few) at c.in_ok-kinds_fault.ensures)
    ∙ first_passes _ _ 0 tt tt tt (rw c.container_fault.ensures at c.in_ok-refuse-2.ensures)
    ∙ first_passes _ _ 0 tt tt tt (rw c.over_count.ensures at c.in_ok-refuse.ensures)
