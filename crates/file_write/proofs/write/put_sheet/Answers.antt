-- `write::put_sheet` meets its contract: the sections one after the other.
use native.Mathlib.Omega.{arith}
use Rattle.sheet.specs.Sheets.{no_kind, no_line}
use Rattle.file_write.specs.Writing.{kind_out, line_out, kinds_out, lines_out, ids_out, file_of}
use Rattle.file_bytes.specs.Bytes.{u32_out}
use Rattle.file_bytes.specs.Stores.{then}
use Rattle.file_write.specs.Stores.{first_records, container_length, kinds_length, lines_length, ids_length}
use Rattle.file_write.proofs.write.put_sheet.Goals as goal

pub returns : goal.returns
unfolding file_of kinds_out lines_out ids_out
returns c =
    let s = c.args.s in
    then c.put_container.ensures (container_length s.container) (omega arith)
    (then (rw (first_records kind_out no_kind s.kinds s.many.kinds (omega arith)) at (c.put_all.ensures no_kind)) (kinds_length s.kinds s.many.kinds) (omega arith)
    (then (rw (first_records line_out no_line s.lines s.many.lines (omega arith)) at (c.put_all-2.ensures no_line)) (lines_length s.lines s.many.lines) (omega arith)
    (then (rw (first_records u32_out 0 s.unplaced s.many.unplaced (omega arith)) at (c.put_all-3.ensures 0)) (ids_length s.unplaced s.many.unplaced) (omega arith) c.put_trailer.ensures)))
