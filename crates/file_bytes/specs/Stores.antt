-- Stores into lent bytes: one after the other they are one longer store.
use Rattle.std.specs.Prelude.{◌≡◌, refl, cond, List, [], ◌∷◌, ◌++◌, ℕ, suc, ◌+◌, ◌≤◌, ◌<◌, leb, length, take, drop, set}
use Rattle.std.proofs.Common.{◌∙◌, sym, append_assoc, arith, add-zero, le-leb}
use Rattle.std.proofs.lemmas.List.Edits.{sets, sets-eq}
use Rattle.std.proofs.Math.Seq.{length-sets}
use Rattle.std.proofs.lemmas.Bool.{lt-leb}
use Rattle.file_bytes.specs.Bytes.{bytes_of}
use Rattle.file_bytes.specs.Layout.{bytes_length}

-- ws from `at` on where there is room for all of it, else all as it was
unfoldable pub stored : List ℕ → ℕ → List ℕ → List ℕ
stored o at ws = cond (leb (at + length ws) (length o)) (sets o at ws) o

-- bytes that have room are stored in place of as many, and others are not
pub has_room_lem : (ws o : List ℕ) (at : ℕ) → at + length ws ≤ length o → take at o ++ (ws ++ drop (at + length ws) o) ≡ stored o at ws
unfolding stored
has_room_lem ws o at h = rw (le-leb (at + length ws) (length o) h) (sym (sets-eq ws o at h ∙ append_assoc (take at o) ws _))

pub no_room : (ws o : List ℕ) (at : ℕ) → length o < at + length ws → o ≡ stored o at ws
unfolding stored
no_room ws o at h = rw (lt-leb (at + length ws) (length o) h)

-- o' is o with ws from `at` on
pub record Put (o : List ℕ) (at : ℕ) (ws : List ℕ) (o' : List ℕ) : Type 0 where
  pub cells : o' ≡ sets o at ws

-- a number was stored where there was room for it
pub put : {o o' : List ℕ} {at : ℕ} (w v : ℕ) → o' ≡ stored o at (bytes_of w v) → at + w ≤ length o → Put o at (bytes_of w v) o'
unfolding stored
put {o} {o'} {at} w v e h = record { cells = e ∙ rw (bytes_length w v, le-leb (at + w) (length o) h) }

sets_append : (ws vs o : List ℕ) (at : ℕ) → sets (sets o at ws) (at + length ws) vs ≡ sets o at (ws ++ vs)
sets_append [] vs o at = rw add-zero
sets_append (w ∷ ws) vs o at =
    let e : at + suc (length ws) ≡ suc at + length ws = omega arith in rw e (sets_append ws vs (set o at w) (suc at))

-- a store of the k cells ws, and then one of vs where it ended
pub then : {o o₁ o₂ : List ℕ} {at m k : ℕ} {ws vs : List ℕ} → Put o at ws o₁ → length ws ≡ k → m ≡ at + k → Put o₁ m vs o₂ → Put o at (ws ++ vs) o₂
then {o} {o₁} {o₂} {at} {m} {k} {ws} {vs} a l e b = record { cells = b.cells ∙ rw (a.cells, e, ← l) (sets_append ws vs o at) }

-- nothing stored
pub put_none : (o : List ℕ) (at : ℕ) → Put o at [] o
put_none o at = record { cells = refl }

pub put_length : {o o' : List ℕ} {at : ℕ} {ws : List ℕ} → Put o at ws o' → length o' ≡ length o
put_length {o} {o'} {at} {ws} p = rw p.cells (length-sets o at ws)
