-- `put` of a kind meets its contract: the fields one after the other.
use mathlib.Core.Path.{refl}
use native.Mathlib.Omega.{arith}
use Rattle.file_bytes.specs.Bytes.{byte, half, word, float}
use Rattle.file_bytes.specs.Layout.{fields_out, bytes_length}
use Rattle.file_bytes.specs.Stores.{put, then, put_none}
use Rattle.file_write.specs.Writing.{kind_out, kind_numbers}
use Rattle.file_write.proofs.write.KindRecord.put.Goals as goal

pub overflow_add-at-9 : goal.overflow_add-at-9
overflow_add-at-9 c =
    omega (arith, c.requires)

pub returns : goal.returns
unfolding kind_out kind_numbers fields_out
returns c =
    then (put_none _ _) refl (omega arith)
    (then (put word _ c.put_u32.ensures (omega arith)) (bytes_length word _) (omega arith)
    (then (put word _ c.put_u32-2.ensures (omega arith)) (bytes_length word _) (omega arith)
    (then (put float _ c.put_f64.ensures (omega arith)) (bytes_length float _) (omega arith)
    (then (put float _ c.put_f64-2.ensures (omega arith)) (bytes_length float _) (omega arith)
    (then (put float _ c.put_f64-3.ensures (omega arith)) (bytes_length float _) (omega arith)
    (then (put float _ c.put_f64-4.ensures (omega arith)) (bytes_length float _) (omega arith)
    (then (put byte _ c.put_byte.ensures (omega arith)) (bytes_length byte _) (omega arith)
    (then (put byte _ c.put_byte-2.ensures (omega arith)) (bytes_length byte _) (omega arith)
    (then (put half _ c.put_u16.ensures (omega arith)) (bytes_length half _) refl (put_none _ _))))))))))
