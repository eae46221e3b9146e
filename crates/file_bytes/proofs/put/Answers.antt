-- `put` meets its contract: the bytes are copied where there is room for them.
use Rattle.std.proofs.Common.{◌∙◌, refl, arith, length}
use Rattle.std.proofs.lemmas.Slice.{put_mid-paste}
use Rattle.std.proofs.lemmas.List.Edits.{paste_all}
use Rattle.file_bytes.specs.Stores.{has_room_lem, no_room}
use Rattle.file_bytes.proofs.put.Goals as goal
use Rattle.file_bytes.proofs.put.Goals.{else-out-via-then-out+else-at-out, else-out-via-else-out}

pub returns-then-at-out : goal.returns-then-at-out
returns-then-at-out g c =
    let a = c.args in
    put_mid-paste _ _ _ _ a.bytes (length a.bytes) c.copy_from_slice.ensures.after (omega arith) (omega arith) ∙ paste_all a.out.now a.at a.bytes (length a.bytes) refl
    ∙ has_room_lem a.bytes a.out.now a.at (omega arith)

pub returns-else-out : goal.returns-else-out
returns-else-out g c =
    let a = c.args in
    elim c.else-out.branch [
      | else-out-via-then-out+else-at-out w ↦ no_room a.bytes a.out.now a.at (omega arith)
      | else-out-via-else-out w ↦ no_room a.bytes a.out.now a.at (omega arith)
    ]
