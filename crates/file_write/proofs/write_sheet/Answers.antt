-- `write_sheet` meets its contract: refused as the sheet is, then for room, else the file and then the old bytes.
use Rattle.std.proofs.Common.{◌≡◌, ◌≤◌, ◌∙◌, length}
use Rattle.std.proofs.lemmas.Result.{err_from_is_err_and}
use Rattle.domain.specs.Refusal.{no_refusal, or_refuses, or_passes, room_refuses, room_found, room_enough}
use Rattle.sheet.specs.Sheets.{sheet_refusal}
use Rattle.sheet.specs.Accepted.{Few, accepted}
use Rattle.file_write.specs.Writing.{file_length, written_of, bytes_stay, bytes_written}
use Rattle.file_write.specs.Stores.{put_file}
use Rattle.file_write.proofs.write_sheet.Goals as goal
use Rattle.file_write.proofs.write_sheet.Goals.{In_ok-sheet_refusal, In_ok-refuse}

-- past the first test the sheet is accepted
sound : (c : In_ok-sheet_refusal) → sheet_refusal c.args.s ≡ 0
sound c = no_refusal _ 0 tt tt c.in_ok-sheet_refusal.ensures

counts_few : (c : In_ok-sheet_refusal) → Few c.args.s.many
counts_few c = (accepted _ (sound c)).few_of

-- past the second there is room
room : (c : In_ok-refuse) → file_length c.args.s.many ≤ length c.args.out.now
room c = room_enough _ _ (rw c.file_length-length.ensures at c.in_ok-refuse.ensures)

pub returns-in_err-sheet_refusal : goal.returns-in_err-sheet_refusal
unfolding written_of
returns-in_err-sheet_refusal c =
    let p = err_from_is_err_and c.from_residual.result c.from_residual.ensures.1 in
    let e = or_refuses (sheet_refusal c.args.s) tt _ _ c.in_err-sheet_refusal.ensures in
    rw (p.1, p.2) (record { answer = e; bytes = bytes_stay c.args.s _ _ e })

pub file_length-length-requires : goal.file_length-length-requires
file_length-length-requires c = counts_few (goal.at.file_length-length-requires c).In_ok-sheet_refusal

pub returns-in_err-refuse : goal.returns-in_err-refuse
unfolding written_of
returns-in_err-refuse c =
    let p = err_from_is_err_and c.from_residual-in_err-refuse.result c.from_residual-in_err-refuse.ensures.1 in
    let e =
    room_refuses _ _ (file_length c.args.s.many) _ (rw c.file_length-length.ensures at c.in_err-refuse.ensures)
    ∙ or_passes (sheet_refusal c.args.s) tt tt _ c.in_ok-sheet_refusal.ensures
    in
    rw (p.1, p.2) (record { answer = e; bytes = bytes_stay c.args.s _ _ e })

pub put_sheet-requires : goal.put_sheet-requires
put_sheet-requires c =
    (counts_few (goal.at.put_sheet-requires c).In_ok-sheet_refusal, room (goal.at.put_sheet-requires c).In_ok-refuse)

pub returns : goal.returns
unfolding written_of
returns c =
    let l = room (goal.at.returns c).In_ok-refuse in
    let e =
    room_found _ _ (file_length c.args.s.many) (rw c.file_length-length.ensures at c.in_ok-refuse.ensures)
    ∙ or_passes (sheet_refusal c.args.s) tt tt _ c.in_ok-sheet_refusal.ensures
    in
    record {
      answer = rw c.file_length-length.ensures e;
      bytes = put_file c.args.s _ _ l c.put_sheet.ensures ∙ bytes_written c.args.s _ _ e;
    }
