-- The reading call and the writing call undo each other: a sheet that was written, and two files with one sheet. RULES: Load file
use Rattle.std.specs.Prelude.{ℕ, ◌≡◌, List, ◌++◌, length, take, drop, Ok}
use Rattle.std.proofs.Common.{sym, ◌∙◌, take_at}
use Rattle.sheet.specs.declared.Sheet.{Sheet}
use Rattle.sheet.specs.Accepted.{accepted}
use Rattle.file_read.specs.Reading.{read_of}
use Rattle.file_write.specs.Writing.{file_of, file_length, written_of, bytes_after}
use Rattle.file_laws.specs.Parts.{Bytes}
use Rattle.file_write.specs.Stores.{file_length_is}
use Rattle.file_laws.specs.Typed.{Typed}
use Rattle.file_laws.specs.Tidy.{tidy, Blank, tidy_blank}
use Rattle.file_laws.specs.ReadWrite.{same_file}
use Rattle.file_laws.specs.WriteRead.{write_read}
use Rattle.file_laws.specs.RoundTrip.{read_is, reads, bytes_are, accepts}
use Rattle.file_laws.proofs.WriteRead.{write_accepted}

-- ---- **writing then reading gives the same sheet**: where the writing call accepts s, the reading call given the bytes that were written accepts,
-- and gives s with the cells past its counts blank
pub write_then_read : (s : Sheet) (out : List ℕ) (n : ℕ) → Typed s → written_of s (length out) ≡ Ok n → read_of (take n (bytes_after s out)) ≡ Ok (tidy s)
write_then_read s out n typed h =
    let a = accepts s (length out) n h in
    let taken : take (file_length s.many) (file_of s ++ drop (file_length s.many) out) ≡ file_of s =
    take_at (file_of s) (drop (file_length s.many) out) (file_length s.many) (file_length_is s) in
    rw (a.length_is, bytes_are s out a.sheet a.room, taken)
    (read_is (file_of s) (write_accepted s typed a.sheet) ∙ rw (write_read s typed a.sheet))

-- a sheet whose cells past its counts are blank comes back as it was
pub write_then_read_same : (s : Sheet) (out : List ℕ) (n : ℕ) → Typed s → Blank s → written_of s (length out) ≡ Ok n →
    read_of (take n (bytes_after s out)) ≡ Ok s
write_then_read_same s out n typed blank h =
    let few = (accepted s (accepts s (length out) n h).sheet).few_of in
    write_then_read s out n typed h ∙ rw (tidy_blank s typed few blank)

-- ---- **two accepted files with the same sheet are the same file**
pub same_reading : (f g : List ℕ) (s : Sheet) → Bytes f → Bytes g → read_of f ≡ Ok s → read_of g ≡ Ok s → f ≡ g
same_reading f g s bf bg df dg =
    let rf = reads f s df in
    let rg = reads g s dg in
    same_file f g bf bg rf.file rg.file (sym rf.sheet ∙ rg.sheet)
