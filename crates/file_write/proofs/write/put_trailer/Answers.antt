-- `write::put_trailer` meets its contract: the four starts, the form and the last two bytes.
use mathlib.Core.Path.{refl}
use native.Mathlib.Omega.{arith}
use Rattle.file_bytes.specs.Bytes.{byte, half, word}
use Rattle.file_bytes.specs.Layout.{fields_out, bytes_length}
use Rattle.file_bytes.specs.Stores.{put, then, put_none}
use Rattle.file_write.specs.Writing.{trailer_out, trailer_numbers}
use Rattle.file_write.proofs.write.put_trailer.Goals as goal

pub returns : goal.returns
unfolding trailer_out trailer_numbers fields_out
returns c =
    let r = c.requires.1 in
    then (put_none _ _) refl (omega (arith, r))
    (then (put word _ c.put_u32.ensures (omega (arith, r))) (bytes_length word _) (omega (arith, r))
    (then (put word _ c.put_u32-2.ensures (omega (arith, r))) (bytes_length word _) (omega (arith, r))
    (then (put word _ c.put_u32-3.ensures (omega (arith, r))) (bytes_length word _) (omega (arith, r))
    (then (put word _ c.put_u32-4.ensures (omega (arith, r))) (bytes_length word _) (omega (arith, r))
    (then (put half _ c.put_u16.ensures (omega (arith, r))) (bytes_length half _) (omega (arith, r))
    (then (put byte _ c.put_byte.ensures (omega (arith, r))) (bytes_length byte _) (omega (arith, r))
    (then (put byte _ c.put_byte-2.ensures (omega (arith, r))) (bytes_length byte _) refl (put_none _ _))))))))
