-- A record is described by the widths of its fields in turn. Where a field stands, how long the record is, and its bytes follow.
-- RULES: Load file
use Rattle.std.specs.Prelude.{ℕ, zero, suc, ◌+◌, ◌≡◌, refl, List, [], ◌∷◌, ◌++◌, length}
use Rattle.std.proofs.Common.{length-append}
use Rattle.file_bytes.specs.Bytes.{number_at, bytes_of}

-- the length of a record
abbrev pub width_of : List ℕ → ℕ
width_of [] = 0
width_of (w ∷ ws) = w + width_of ws

-- the numbers of the fields ws of the record at p, of which the first stands i bytes into it
unfoldable pub fields_at : List ℕ → List ℕ → ℕ → ℕ → List ℕ
fields_at [] f p i = []
fields_at (w ∷ ws) f p i = number_at w f (p + i) ∷ fields_at ws f p (i + w)

-- the bytes of the numbers vs as the fields ws; a number that is not given is 0
unfoldable pub fields_out : List ℕ → List ℕ → List ℕ
fields_out [] vs = []
fields_out (w ∷ ws) [] = bytes_of w 0 ++ fields_out ws []
fields_out (w ∷ ws) (v ∷ vs) = bytes_of w v ++ fields_out ws vs

pub bytes_length : (w v : ℕ) → length (bytes_of w v) ≡ w
unfolding bytes_of
bytes_length zero v = refl
bytes_length (suc w) v = rw (bytes_length w)

pub fields_length : (ws vs : List ℕ) → length (fields_out ws vs) ≡ width_of ws
unfolding fields_out
fields_length [] vs = refl
fields_length (w ∷ ws) [] = simp length-append (rw (bytes_length w 0, fields_length ws []))
fields_length (w ∷ ws) (v ∷ vs) = simp length-append (rw (bytes_length w v, fields_length ws vs))
