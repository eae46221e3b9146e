-- `list` meets its contract: the findings are listed at once where the room is enough; else they are counted first.
use native.Mathlib.Omega.{arith}
use Rattle.check_words.specs.Writes.{wrote_length}
use Rattle.check_packing.proofs.Read.{sheet_sound, few_kinds, few_lines, few_unplaced}
use Rattle.check_packing.proofs.Answers.{answer_none, answer_room, answer_listed, file_checked_lem}
use Rattle.check_packing.proofs.list.Goals as goal

pub room-requires : goal.room-requires
room-requires c = let t = c.requires in (few_kinds _ _ t, (few_lines _ _ t, few_unplaced _ _ t))

pub shape_of-out-then-room-out : goal.shape_of-out-then-room-out
shape_of-out-then-room-out c = wrote_length c.put_all.ensures.words

pub returns-then-room-out : goal.returns-then-room-out
returns-then-room-out c =
    let t = c.requires in
    let w = c.put_all.ensures in
    file_checked_lem t.sound (answer_listed _ _ (sheet_sound _ t.sound) w.words (omega (arith, w.few, c.room.ensures, c.if-room-out.true)) w.words)

pub returns-then-n-eq0 : goal.returns-then-n-eq0
returns-then-n-eq0 c =
    let t = c.requires in
    file_checked_lem t.sound (answer_none _ _ (sheet_sound _ t.sound) c.put_all-n.ensures.words c.if-n-eq0.true)

pub returns-then-out-n : goal.returns-then-out-n
returns-then-out-n c =
    let t = c.requires in
    file_checked_lem t.sound (answer_room _ _ (sheet_sound _ t.sound) c.put_all-n.ensures.words c.if-out-n.true)

pub shape_of-out : goal.shape_of-out
shape_of-out c = wrote_length c.put_all-2.ensures.words

pub returns : goal.returns
returns c =
    let t = c.requires in
    file_checked_lem t.sound (answer_listed _ _ (sheet_sound _ t.sound) c.put_all-n.ensures.words c.if-out-n.false c.put_all-2.ensures.words)
