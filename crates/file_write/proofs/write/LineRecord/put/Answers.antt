-- `put` of a line meets its contract: the fields one after the other.
use mathlib.Core.Path.{refl}
use native.Mathlib.Omega.{arith}
use Rattle.file_bytes.specs.Bytes.{word, float}
use Rattle.file_bytes.specs.Layout.{fields_out, bytes_length}
use Rattle.file_bytes.specs.Stores.{put, then, put_none}
use Rattle.file_write.specs.Writing.{line_out, line_numbers}
use Rattle.file_write.proofs.write.LineRecord.put.Goals as goal

pub returns : goal.returns
unfolding line_out line_numbers fields_out
returns c =
    then (put_none _ _) refl (omega arith)
    (then (put word _ c.put_u32.ensures (omega arith)) (bytes_length word _) (omega arith)
    (then (put word _ c.put_u32-2.ensures (omega arith)) (bytes_length word _) (omega arith)
    (then (put word _ c.put_u32-3.ensures (omega arith)) (bytes_length word _) (omega arith)
    (then (put word _ c.put_u32-4.ensures (omega arith)) (bytes_length word _) (omega arith)
    (then (put float _ c.put_f64.ensures (omega arith)) (bytes_length float _) (omega arith)
    (then (put float _ c.put_f64-2.ensures (omega arith)) (bytes_length float _) (omega arith)
    (then (put float _ c.put_f64-3.ensures (omega arith)) (bytes_length float _) refl (put_none _ _))))))))
