-- Instance records in words: three each, kind, instance and orientation count. Words behind the last whole record are not read.
use Rattle.std.specs.Prelude.{◌≡◌, Bool, false, List, ℕ, ◌*◌, ◌/◌, ◌<◌, leb, length, get_or}
use Rattle.std.proofs.Common.{leb-false}

abbrev pub records_in : List ℕ → ℕ
records_in records = length records / 3

-- a record's kind index is past the order's m kinds. RULES: Refusals, 9.
unfoldable pub is_stranger : List ℕ → ℕ → ℕ → Bool
is_stranger records m j = leb m (get_or records (j * 3) 0)

pub stranger_not : (records : List ℕ) (m j : ℕ) → is_stranger records m j ≡ false → get_or records (j * 3) 0 < m
unfolding is_stranger
stranger_not records m j h = leb-false m (get_or records (j * 3) 0) h
