-- The reading call and the writing call undo each other: a sheet that was read is written as the same bytes. The other way round stands in
-- proofs/RoundTrip.antt. RULES: Load file
use Rattle.std.specs.Prelude.{ℕ, zero, suc, ◌≤◌, ◌≡◌, refl, Bool, true, false, List, ◌++◌, leb, length, drop, Ok}
use Rattle.std.proofs.Common.{sym, ap, ◌∙◌, arith, leb-true, le-leb}
use Rattle.domain.specs.Refusal.{refused_or, no_refusal, accepted_as, no_number}
use Rattle.domain.specs.Numbers.{number_in, number_is}
use Rattle.sheet.specs.declared.Sheet.{Sheet}
use Rattle.sheet.specs.Sheets.{sheet_refusal}
use Rattle.file_read.specs.Reading.{sheet_of, refusal_of, read_of}
use Rattle.file_read.specs.Refusal.{sheet_sound}
use Rattle.file_read.specs.Numbered.{file_numbered}
use Rattle.file_write.specs.Writing.{file_of, file_length, written_of, bytes_after, bytes_written}
use Rattle.file_laws.specs.Parts.{Bytes}
use Rattle.file_write.specs.Stores.{file_length_is}
use Rattle.file_laws.specs.ReadWrite.{read_write}

-- ---- the calls where they accept

pub refused_is : (f : List ℕ) → number_in (read_of f) ≡ refusal_of f
unfolding read_of
refused_is f = number_is (refusal_of f) 0 (sheet_of f) (file_numbered f)

pub read_is : (f : List ℕ) → refusal_of f ≡ 0 → read_of f ≡ Ok (sheet_of f)
unfolding read_of
read_is f h = sym (no_number (refusal_of f) 0 (sheet_of f) h)

-- the reading call accepts only a file that is not refused, and gives its sheet
pub record Reads (f : List ℕ) (s : Sheet) : Type 0 where
  pub file : refusal_of f ≡ 0
  pub sheet : s ≡ sheet_of f

pub reads : (f : List ℕ) (s : Sheet) → read_of f ≡ Ok s → Reads f s
unfolding read_of
reads f s h =
    record { file = no_refusal (refusal_of f) 0 (sheet_of f) s (sym h); sheet = accepted_as (refusal_of f) 0 (sheet_of f) s (sym h) }

pub written_is : (s : Sheet) (lent : ℕ) → sheet_refusal s ≡ 0 → file_length s.many ≤ lent → written_of s lent ≡ Ok (file_length s.many)
unfolding written_of refused_or
written_is s lent h l = rw (h, le-leb (file_length s.many) lent l)

pub bytes_are : (s : Sheet) (out : List ℕ) → sheet_refusal s ≡ 0 → file_length s.many ≤ length out
    → bytes_after s out ≡ file_of s ++ drop (file_length s.many) out
bytes_are s out h l = sym (bytes_written s out (file_length s.many) (sym (written_is s (length out) h l)))

-- the writing call accepts only a sheet that is not refused, and only where there is room, and tells the length
pub record Accepts (s : Sheet) (lent n : ℕ) : Type 0 where
  pub sheet : sheet_refusal s ≡ 0
  pub room : file_length s.many ≤ lent
  pub length_is : n ≡ file_length s.many

pub accepts : (s : Sheet) (lent n : ℕ) → written_of s lent ≡ Ok n → Accepts s lent n
unfolding written_of refused_or
accepts s lent n = go (sheet_refusal s) (leb (file_length s.many) lent) refl refl
  where
    go : (a : ℕ) (b : Bool) → sheet_refusal s ≡ a → leb (file_length s.many) lent ≡ b → written_of s lent ≡ Ok n → Accepts s lent n
    go zero true p q k = let h = rw (p, q) at k in record { sheet = p; room = leb-true (file_length s.many) lent q; length_is = cc }
    go zero false p q k = let h = rw (p, q) at k in absurd (cc)
    go (suc a) b p q k = let h = rw p at k in absurd (cc)

-- ---- **reading then writing gives the same bytes**: where the reading call accepts f, the writing call given the sheet that was read, and room
-- for it, accepts, says f's length, and leaves f in front of the old bytes
pub record Rewritten (f : List ℕ) (s : Sheet) (out : List ℕ) : Type 0 where
  pub answer : written_of s (length out) ≡ Ok (length f)
  pub bytes : bytes_after s out ≡ f ++ drop (length f) out

pub read_then_write : (f out : List ℕ) (s : Sheet) → Bytes f → read_of f ≡ Ok s → length f ≤ length out → Rewritten f s out
read_then_write f out s bytes e room =
    let r = reads f s e in
    let same = read_write f bytes r.file in
    let fine = sheet_sound f r.file in
    let long : file_length (sheet_of f).many ≡ length f = sym (file_length_is (sheet_of f)) ∙ ap length same in
    let l : file_length (sheet_of f).many ≤ length out = omega arith in
    rw r.sheet
    (record {
      answer = written_is (sheet_of f) (length out) fine l ∙ rw long;
      bytes = bytes_are (sheet_of f) out fine l ∙ rw (same, long);
    })
