-- How long a line may be.
use Rattle.std.specs.Prelude.{◌≡◌, refl, Bool, true, false, cond, [], ◌∷◌, ℕ, ◌≤◌, leb, length}
use Rattle.std.proofs.Common.{arith, length-append}
use Rattle.show.specs.Hex.{hex_of}
use Rattle.show_finding.specs.Names.{name_length}
use Rattle.show_finding.specs.Decimal.{decimal_of, decimal_length}
use Rattle.show_finding.specs.Line.{used_of, is_float, word_of, field_of, finding_text, finding_line, most_letters}

hex_length : (w : ℕ) → length (hex_of w) ≡ 16
unfolding hex_of
hex_length w = refl

-- no field takes more than a space and twenty digits
word_by : (float : Bool) (w : ℕ) → length (cond float (hex_of w) (decimal_of w)) ≤ 20
word_by true w = let e = hex_length w in omega arith
word_by false w = decimal_length 20 w

field_by : (past : Bool) (n i w : ℕ) → length (cond past [] (32 ∷ word_of n i w)) ≤ 21
unfolding word_of
field_by true n i w = omega arith
field_by false n i w = let h = word_by (is_float n i) w in omega arith

field_length : (n i w : ℕ) → length (field_of n i w) ≤ 21
unfolding field_of
field_length n i w = field_by (leb (used_of n) i) n i w

-- RULES: Programs. No line has more letters than the longest name, four fields and an end.
pub line_length : (n a b c d : ℕ) → length (finding_line n a b c d) ≤ most_letters
unfolding finding_line finding_text
line_length n a b c d =
    let f = field_length n in
    simp length-append (omega (arith, name_length n, f 0 a, f 1 b, f 2 c, f 3 d))
