-- What follows from that writing then reading gives the same sheet: the file is accepted, and two sheets with one file are the same.
use Rattle.std.specs.Prelude.{◌≡◌}
use Rattle.std.proofs.Common.{sym, ap, ◌∙◌}
use Rattle.sheet.specs.declared.Sheet.{Sheet}
use Rattle.sheet.specs.Sheets.{sheet_refusal}
use Rattle.sheet.specs.Accepted.{accepted}
use Rattle.file_read.specs.Reading.{sheet_of, refusal_of}
use Rattle.file_write.specs.Writing.{file_of}
use Rattle.file_read.specs.Refusal.{sheet_decides}
use Rattle.file_laws.specs.Typed.{Typed}
use Rattle.file_laws.specs.Tidy.{tidy, Blank, tidy_blank, tidy_refusal}
use Rattle.file_laws.specs.WriteRead.{file_shaped, right_shape_lem, write_read}

-- **the file of a sheet that is not refused is accepted**
pub write_accepted : (s : Sheet) → Typed s → sheet_refusal s ≡ 0 → refusal_of (file_of s) ≡ 0
write_accepted s typed h =
    let few = (accepted s h).few_of in
    sheet_decides (file_of s) (right_shape_lem (file_of s) (file_shaped s few)) ∙ ap sheet_refusal (write_read s typed h) ∙ tidy_refusal s few ∙ h

-- **a sheet whose cells past its counts are blank comes back as it was**
pub write_read_same : (s : Sheet) → Typed s → sheet_refusal s ≡ 0 → Blank s → sheet_of (file_of s) ≡ s
write_read_same s typed h b = write_read s typed h ∙ tidy_blank s typed (accepted s h).few_of b

-- **two such sheets with the same file are the same but for those cells**
pub same_sheet : (s t : Sheet) → Typed s → Typed t → sheet_refusal s ≡ 0 → sheet_refusal t ≡ 0 → file_of s ≡ file_of t → tidy s ≡ tidy t
same_sheet s t a b h k e = sym (write_read s a h) ∙ ap sheet_of e ∙ write_read t b k
