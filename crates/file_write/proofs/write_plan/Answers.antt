-- `write_plan` meets its contract: the guards in their order, then the parts of the file one after the other.
use Rattle.std.proofs.Common.{◌≡◌, ◌≤◌, ◌∙◌, Bool, false, ◌||◌, length, sym, ap, ltb-false, arith}
use Rattle.std.proofs.lemmas.Result.{err_from_is_err_and}
use Rattle.std.proofs.Math.Dec.{ltb}
use Rattle.domain.specs.Refusals.{when}
use Rattle.domain.specs.Refusal.{no_refusal, or_refuses, or_passes, room_refuses, room_found, room_enough}
use Rattle.domain.specs.Laws.{when_none}
use Rattle.lists.specs.Bools.{or_left, or_right}
use Rattle.sheet.specs.declared.Counts.{Counts}
use Rattle.file_bytes.specs.Stores.{put_length}
use Rattle.file_write.specs.Writing.{lines_from, file_length}
use Rattle.file_write.specs.Planned.{over_counts, over_plan, plan_written, plan_stays, plan_placed}
use Rattle.file_write.specs.PlanStores.{Holds, holds, plan_few, plan_put, plan_stored}
use Rattle.file_write.proofs.write_plan.Goals as goal
use Rattle.file_write.proofs.write_plan.Goals.{After-over_counts, In_ok-refuse, In_ok-refuse-2, In_ok-refuse-3}

abbrev many : After-over_counts → Counts
many c = record { kinds = c.args.kinds; lines = c.args.placed; unplaced = c.args.unplaced }

-- the first test
over_is : (c : After-over_counts) → (c.over_counts.result || ltb (length c.args.lines.now) c.args.placed) ≡ over_plan (many c) c.args.lines.now
over_is c = ap (λ (v : Bool). v || ltb (length c.args.lines.now) c.args.placed) c.over_counts.ensures

-- past it there are as many lines as the counts say
within : (c : In_ok-refuse) → over_plan (many (goal.at.In_ok-refuse c).After-over_counts) c.args.lines.now ≡ false
within c =
    sym (over_is (goal.at.In_ok-refuse c).After-over_counts) ∙ when_none _ 1 (no_refusal _ 0 tt tt c.in_ok-refuse.ensures)

fine : (c : In_ok-refuse) → Holds (many (goal.at.In_ok-refuse c).After-over_counts)
fine c = holds _ (or_left _ _ (within c))

cells : (c : In_ok-refuse) → c.args.placed ≤ length c.args.lines.now
cells c = ltb-false _ _ (or_right (over_counts (many (goal.at.In_ok-refuse c).After-over_counts)) _ (within c))

-- past the second the order holds its kinds
whole : (c : In_ok-refuse-2) → lines_from (many (goal.at.In_ok-refuse-2 c).After-over_counts) ≤ length c.args.order.now
whole c = ltb-false _ _ (when_none _ 0 (no_refusal _ 0 tt tt c.in_ok-refuse-2.ensures))

-- past the third there is room
room : (c : In_ok-refuse-3) → file_length (many (goal.at.In_ok-refuse-3 c).After-over_counts) ≤ length c.args.out.now
room c = room_enough _ _ (rw c.file_length-needed.ensures at c.in_ok-refuse-3.ensures)

pub returns-in_err-refuse : goal.returns-in_err-refuse
unfolding plan_written
returns-in_err-refuse c =
    let p = err_from_is_err_and c.from_residual.result c.from_residual.ensures.1 in
    let w = (goal.at.returns-in_err-refuse c).After-over_counts in
    let e = or_refuses (when (over_plan (many w) c.args.lines.now) 2) tt _ _ (rw (over_is w) at c.in_err-refuse.ensures) in
    rw (p.1, p.2) (record { answer = e; bytes = plan_stays _ (many w) c.args.lines.now _ _ _ e })

pub overflow_mul-start : goal.overflow_mul-start
overflow_mul-start c = let h = fine (goal.at.overflow_mul-start c).In_ok-refuse in omega arith

pub overflow_add-start : goal.overflow_add-start
overflow_add-start c = let h = fine (goal.at.overflow_add-start c).In_ok-refuse in omega arith

pub returns-in_err-refuse-2 : goal.returns-in_err-refuse-2
unfolding plan_written
returns-in_err-refuse-2 c =
    let p = err_from_is_err_and c.from_residual-in_err-refuse-2.result c.from_residual-in_err-refuse-2.ensures.1 in
    let w = (goal.at.returns-in_err-refuse-2 c).After-over_counts in
    let e =
    or_refuses (when (ltb (length c.args.order.now) (lines_from (many w))) 1) tt _ _ c.in_err-refuse-2.ensures
    ∙ or_passes (when (over_plan (many w) c.args.lines.now) 2) tt tt _ (rw (over_is w) at c.in_ok-refuse.ensures)
    in
    rw (p.1, p.2) (record { answer = e; bytes = plan_stays _ (many w) c.args.lines.now _ _ _ e })

pub file_length-needed-requires : goal.file_length-needed-requires
file_length-needed-requires c = plan_few _ (fine (goal.at.file_length-needed-requires c).In_ok-refuse)

pub returns-in_err-refuse-3 : goal.returns-in_err-refuse-3
unfolding plan_written
returns-in_err-refuse-3 c =
    let p = err_from_is_err_and c.from_residual-in_err-refuse-3.result c.from_residual-in_err-refuse-3.ensures.1 in
    let w = (goal.at.returns-in_err-refuse-3 c).After-over_counts in
    let e =
    room_refuses _ _ (file_length (many w)) _ (rw c.file_length-needed.ensures at c.in_err-refuse-3.ensures)
    ∙ or_passes (when (ltb (length c.args.order.now) (lines_from (many w))) 1) tt tt _ c.in_ok-refuse-2.ensures
    ∙ or_passes (when (over_plan (many w) c.args.lines.now) 2) tt tt _ (rw (over_is w) at c.in_ok-refuse.ensures)
    in
    rw (p.1, p.2) (record { answer = e; bytes = plan_stays _ (many w) c.args.lines.now _ _ _ e })

pub put_head-requires : goal.put_head-requires
put_head-requires c =
    let w = whole (goal.at.put_head-requires c).In_ok-refuse-2 in
    let r = room (goal.at.put_head-requires c).In_ok-refuse-3 in
    (w, omega arith)

pub put_lines-requires : goal.put_lines-requires
put_lines-requires c =
    let h = fine (goal.at.put_lines-requires c).In_ok-refuse in
    let r = room (goal.at.put_lines-requires c).In_ok-refuse-3 in
    let q = put_length c.put_head.ensures in
    (h.lines, cells (goal.at.put_lines-requires c).In_ok-refuse, omega arith)

pub put_left-requires : goal.put_left-requires
put_left-requires c =
    let h = fine (goal.at.put_left-requires c).In_ok-refuse in
    let r = room (goal.at.put_left-requires c).In_ok-refuse-3 in
    let q = put_length c.put_head.ensures in
    let p = put_length c.put_lines.ensures in
    (h.left, omega arith)

pub put_trailer-requires : goal.put_trailer-requires
put_trailer-requires c =
    let r = room (goal.at.put_trailer-requires c).In_ok-refuse-3 in
    let q = put_length c.put_head.ensures in
    let p = put_length c.put_lines.ensures in
    let w = put_length c.put_left.ensures in
    (plan_few _ (fine (goal.at.put_trailer-requires c).In_ok-refuse), omega arith)

pub returns : goal.returns
unfolding plan_written
returns c =
    let w = (goal.at.returns c).After-over_counts in
    let l = whole (goal.at.returns c).In_ok-refuse-2 in
    let r = room (goal.at.returns c).In_ok-refuse-3 in
    let e =
    room_found _ _ (file_length (many w)) (rw c.file_length-needed.ensures at c.in_ok-refuse-3.ensures)
    ∙ or_passes (when (ltb (length c.args.order.now) (lines_from (many w))) 1) tt tt _ c.in_ok-refuse-2.ensures
    ∙ or_passes (when (over_plan (many w) c.args.lines.now) 2) tt tt _ (rw (over_is w) at c.in_ok-refuse.ensures)
    in
    let p = plan_put c.args.order.now (many w) c.args.lines.now c.args.left.now l c.put_head.ensures c.put_lines.ensures c.put_left.ensures c.put_trailer.ensures in
    record {
      answer = rw c.file_length-needed.ensures e;
      bytes = plan_stored c.args.order.now (many w) c.args.lines.now c.args.left.now _ _ l r p
          ∙ plan_placed c.args.order.now (many w) c.args.lines.now c.args.left.now _ _ e;
    }
