-- `build_instances` meets its contract: the file's refusal, the want of room, or the records of the order's boxes.
use Rattle.std.proofs.Common.{◌≡◌, ◌∙◌, arith}
use Rattle.std.proofs.lemmas.Result.{err_from_is_err_and}
use Rattle.domain.specs.Refusal.{room_enough}
use Rattle.sheet.specs.Accepted.{accepted}
use Rattle.file_read.specs.Reading.{sheet_of}
use Rattle.file_read.specs.Refusal.{sheet_sound}
use Rattle.file_accept.specs.Accept.{Taken, taken}
use Rattle.plan_boxes.specs.Files.{boxes_from_lem, in_file}
use Rattle.layer_instances.specs.Instances.{total, ended_refused, ended_short, ended_written}
use Rattle.layer_instances.proofs.build_instances.Goals as goal
use Rattle.layer_instances.proofs.build_instances.Goals.{After-boxes_of-n}

pub returns-in_err-a : goal.returns-in_err-a
returns-in_err-a c =
    let p = err_from_is_err_and c.from_residual.result c.from_residual.ensures.1 in
    rw (p.1, p.2) (ended_refused _ _ _ c.in_err-a.ensures)

-- past the first test the file is accepted, and its boxes are counted
known : (c : After-boxes_of-n) → Taken c.args.order.now c.in_ok-a.a
known c = taken _ _ c.in_ok-a.ensures

counted : (c : After-boxes_of-n) → c.boxes_of-n.result ≡ total (sheet_of c.args.order.now)
counted c = let t = known c in c.boxes_of-n.ensures ∙ boxes_from_lem _ _ t.can_read t.kinds_are

pub returns-in_err-refuse : goal.returns-in_err-refuse
returns-in_err-refuse c =
    let b = (goal.at.returns-in_err-refuse c).After-boxes_of-n in
    let p = err_from_is_err_and c.from_residual-in_err-refuse.result c.from_residual-in_err-refuse.ensures.1 in
    rw (p.1, p.2) (ended_short _ _ _ (known b).sound (counted b) _ c.in_err-refuse.ensures)

pub put_records-requires : goal.put_records-requires
put_records-requires c =
    let b = (goal.at.put_records-requires c).After-boxes_of-n in
    let t = known b in
    let e = counted b in
    let h = room_enough _ _ c.in_ok-refuse.ensures in
    (in_file _ _ t.can_read (accepted _ (sheet_sound _ t.sound)) (omega arith), omega arith)

pub returns : goal.returns
returns c =
    let b = (goal.at.returns c).After-boxes_of-n in
    rw c.put_records.ensures (ended_written _ _ _ (known b).sound (counted b) c.in_ok-refuse.ensures)
