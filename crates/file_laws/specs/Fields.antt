-- Records by their fields: what was written as a record is read there, and what was read is written as it stands. Each law is proved once, by
-- induction over the widths of the fields, and holds of every record of a load file.
use Rattle.std.specs.Prelude.{ℕ, ◌+◌, ◌^◌, ◌≤◌, ◌<◌, ◌≡◌, refl, List, [], ◌∷◌, ◌++◌, length, take, drop}
use Rattle.std.proofs.Common.{sym, ap, ◌∙◌, add-zero, arith, take-take, take_at, take_all, drop_at}
use Rattle.file_bytes.specs.Bytes.{number_at, bytes_of, part}
use Rattle.file_bytes.specs.Layout.{width_of, fields_at, fields_out, bytes_length, fields_length}
use Rattle.file_laws.specs.Parts.{Bytes, joined, part_inside, bytes_nil, bytes_append, bytes_bytes, bytes_number, number_there}

-- a number for each field, and each within its field's width
pub data Fit : List ℕ → List ℕ → Type 0 where
  none : Fit [] []
  one : {w v : ℕ} {ws vs : List ℕ} → v < 256 ^ w → Fit ws vs → Fit (w ∷ ws) (v ∷ vs)

-- ---- a record is bytes
pub fields_bytes : (ws vs : List ℕ) → Bytes (fields_out ws vs)
unfolding fields_out
fields_bytes [] vs = bytes_nil
fields_bytes (w ∷ ws) [] = bytes_append (bytes_of w 0) (fields_out ws []) (bytes_bytes w 0) (fields_bytes ws [])
fields_bytes (w ∷ ws) (v ∷ vs) = bytes_append (bytes_of w v) (fields_out ws vs) (bytes_bytes w v) (fields_bytes ws vs)

-- ---- what was read is written as it stands
fields_back : (ws f : List ℕ) (p i : ℕ) → Bytes f → p + i + width_of ws ≤ length f → fields_out ws (fields_at ws f p i) ≡ part f (p + i) (width_of ws)
unfolding fields_out fields_at
fields_back [] f p i b l = refl
fields_back (w ∷ ws) f p i b l =
    joined f (p + i) w (p + (i + w)) (width_of ws) (bytes_of w (number_at w f (p + i))) _ (omega arith) (bytes_number w f (p + i) b (omega arith))
    (fields_back ws f p (i + w) b (omega arith))

pub record_back : (ws f : List ℕ) (p : ℕ) → Bytes f → p + width_of ws ≤ length f → fields_out ws (fields_at ws f p 0) ≡ part f p (width_of ws)
record_back ws f p b l = rw add-zero at (fields_back ws f p 0 b (omega arith))

-- ---- what was written is read there

-- where l and then m stand, l stands, and m behind it
front : (s : List ℕ) (p a b : ℕ) (l m : List ℕ) → part s p (a + b) ≡ l ++ m → length l ≡ a → part s p a ≡ l
front s p a b l m h e = sym (take-take a (a + b) (drop p s) (omega arith)) ∙ ap (take a) h ∙ take_at l m a e

behind : (s : List ℕ) (p a b : ℕ) (l m : List ℕ) → part s p (a + b) ≡ l ++ m → length l ≡ a → length m ≡ b → part s (p + a) b ≡ m
behind s p a b l m h e k =
    sym (part_inside s p (a + b) a b (omega arith)) ∙ ap (λ (r : List ℕ). part r a b) h ∙ ap (take b) (drop_at l m a e) ∙ take_all b m (omega arith)

fields_forth : {ws vs : List ℕ} (f : List ℕ) (p i : ℕ) → Fit ws vs → part f (p + i) (width_of ws) ≡ fields_out ws vs → fields_at ws f p i ≡ vs
unfolding fields_out fields_at
fields_forth f p i none h = refl
fields_forth f p i (one {w} {v} {ws} {vs} l r) h =
    let e : p + i + w ≡ p + (i + w) = omega arith in
    let a = front f (p + i) w (width_of ws) (bytes_of w v) (fields_out ws vs) h (bytes_length w v) in
    let b = behind f (p + i) w (width_of ws) (bytes_of w v) (fields_out ws vs) h (bytes_length w v) (fields_length ws vs) in
    rw (number_there w f (p + i) v a l, fields_forth f p (i + w) r (rw e at b))

pub record_forth : {ws vs : List ℕ} (f : List ℕ) (p : ℕ) → Fit ws vs → part f p (width_of ws) ≡ fields_out ws vs → fields_at ws f p 0 ≡ vs
record_forth f p r h = fields_forth f p 0 r (rw add-zero h)
