-- The names of the findings as they are printed, in ASCII: RULES, Programs.
use Rattle.std.specs.Prelude.{◌≡◌, List, [], ◌∷◌, ℕ, zero, suc, ◌<◌, ◌≤◌, length, get_or}
use Rattle.std.proofs.Common.{arith}
use Rattle.std.proofs.lemmas.List.{get_or_past}

-- "unknown"
abbrev pub unknown_name : List ℕ
unknown_name = 117 ∷ 110 ∷ 107 ∷ 110 ∷ 111 ∷ 119 ∷ 110 ∷ []

-- "out-of-range"
abbrev pub out_of_range_name : List ℕ
out_of_range_name = 111 ∷ 117 ∷ 116 ∷ 45 ∷ 111 ∷ 102 ∷ 45 ∷ 114 ∷ 97 ∷ 110 ∷ 103 ∷ 101 ∷ []

-- "repeated"
abbrev pub repeated_name : List ℕ
repeated_name = 114 ∷ 101 ∷ 112 ∷ 101 ∷ 97 ∷ 116 ∷ 101 ∷ 100 ∷ []

-- "orientation"
abbrev pub orientation_name : List ℕ
orientation_name = 111 ∷ 114 ∷ 105 ∷ 101 ∷ 110 ∷ 116 ∷ 97 ∷ 116 ∷ 105 ∷ 111 ∷ 110 ∷ []

-- "bin"
abbrev pub bin_name : List ℕ
bin_name = 98 ∷ 105 ∷ 110 ∷ []

-- "outside"
abbrev pub outside_name : List ℕ
outside_name = 111 ∷ 117 ∷ 116 ∷ 115 ∷ 105 ∷ 100 ∷ 101 ∷ []

-- "overlap"
abbrev pub overlap_name : List ℕ
overlap_name = 111 ∷ 118 ∷ 101 ∷ 114 ∷ 108 ∷ 97 ∷ 112 ∷ []

-- "too-close"
abbrev pub too_close_name : List ℕ
too_close_name = 116 ∷ 111 ∷ 111 ∷ 45 ∷ 99 ∷ 108 ∷ 111 ∷ 115 ∷ 101 ∷ []

-- "mass"
abbrev pub mass_name : List ℕ
mass_name = 109 ∷ 97 ∷ 115 ∷ 115 ∷ []

-- "missing"
abbrev pub missing_name : List ℕ
missing_name = 109 ∷ 105 ∷ 115 ∷ 115 ∷ 105 ∷ 110 ∷ 103 ∷ []

-- "wrongly-unplaced"
abbrev pub wrongly_unplaced_name : List ℕ
wrongly_unplaced_name = 119 ∷ 114 ∷ 111 ∷ 110 ∷ 103 ∷ 108 ∷ 121 ∷ 45 ∷ 117 ∷ 110 ∷ 112 ∷ 108 ∷ 97 ∷ 99 ∷ 101 ∷ 100 ∷ []

-- by number, 1 to 10; what stands at 0 is the last finding's
abbrev pub names : List (List ℕ)
names =
    wrongly_unplaced_name
    ∷ unknown_name
    ∷ out_of_range_name
    ∷ repeated_name
    ∷ orientation_name
    ∷ bin_name
    ∷ outside_name
    ∷ overlap_name
    ∷ too_close_name
    ∷ mass_name
    ∷ missing_name
    ∷ []

-- RULES: Programs. The name of a finding by its number, 1 to 11. No finding has another number; a wrong one would be called like the last.
unfoldable pub name_of : ℕ → List ℕ
name_of n = get_or names n wrongly_unplaced_name

-- ---- laws

-- a number past the others has the last name
pub name_last : (n : ℕ) → 10 < n → name_of n ≡ wrongly_unplaced_name
unfolding name_of
name_last n h = get_or_past names n wrongly_unplaced_name h

-- no name has more than sixteen letters
pub name_length : (n : ℕ) → length (name_of n) ≤ 16
unfolding name_of
name_length zero = omega arith
name_length (suc zero) = omega arith
name_length (suc (suc zero)) = omega arith
name_length (suc (suc (suc zero))) = omega arith
name_length (suc (suc (suc (suc zero)))) = omega arith
name_length (suc (suc (suc (suc (suc zero))))) = omega arith
name_length (suc (suc (suc (suc (suc (suc zero)))))) = omega arith
name_length (suc (suc (suc (suc (suc (suc (suc zero))))))) = omega arith
name_length (suc (suc (suc (suc (suc (suc (suc (suc zero)))))))) = omega arith
name_length (suc (suc (suc (suc (suc (suc (suc (suc (suc zero))))))))) = omega arith
name_length (suc (suc (suc (suc (suc (suc (suc (suc (suc (suc zero)))))))))) = omega arith
name_length (suc (suc (suc (suc (suc (suc (suc (suc (suc (suc (suc n))))))))))) = omega arith
