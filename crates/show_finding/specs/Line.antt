-- A finding as one line of text: its name, its fields, each behind a space, and the end of the line.
use Rattle.std.specs.Prelude.{ℕ, ◌+◌, ◌*◌, Bool, cond, ◌&&◌, ◌||◌, List, [], ◌∷◌, ◌++◌, ltb, leb, eqb, slice_index, ◌≡◌, refl, Option, Some}
use Rattle.std.specs.Fmt.{with_newline}
use Rattle.show.specs.Hex.{hex_of}
use Rattle.show_finding.specs.Names.{name_of}
use Rattle.show_finding.specs.Decimal.{decimal_of}

-- RULES: Programs. How many of its four fields a finding shows.
unfoldable pub used_of : ℕ → ℕ
used_of n = cond (eqb n 2 || eqb n 8) 4 (cond (eqb n 3 || eqb n 4) 3 (cond (ltb 9 n) 1 2))

-- RULES: Programs. Which fields are floats: both of finding 9 (mass, limit), and the last two of finding 8 (distance, spacing).
abbrev pub is_float : ℕ → ℕ → Bool
is_float n i = eqb n 9 || (eqb n 8 && leb 2 i)

-- a word as it is shown in field i of finding n
unfoldable pub word_of : ℕ → ℕ → ℕ → List ℕ
word_of n i w = cond (is_float n i) (hex_of w) (decimal_of w)

-- field i, behind a space, where the finding has it
unfoldable pub field_of : ℕ → ℕ → ℕ → List ℕ
field_of n i w = cond (leb (used_of n) i) [] (32 ∷ word_of n i w)

-- RULES: Programs. The text of a finding n with the fields a, b, c, d, and its line.
unfoldable pub finding_text : ℕ → ℕ → ℕ → ℕ → ℕ → List ℕ
finding_text n a b c d = name_of n ++ field_of n 0 a ++ field_of n 1 b ++ field_of n 2 c ++ field_of n 3 d

unfoldable pub finding_line : ℕ → ℕ → ℕ → ℕ → ℕ → List ℕ
finding_line n a b c d = finding_text n a b c d ++ (10 ∷ [])

-- the text of a finding's five words
abbrev pub text_of : List ℕ → List ℕ
text_of ws = finding_text (slice_index ws 0) (slice_index ws 1) (slice_index ws 2) (slice_index ws 3) (slice_index ws 4)

-- with the end that `println!` writes behind it, it is the line
pub text_line : (ws : List ℕ)
    → with_newline (Some (text_of ws)) ≡ Some (finding_line (slice_index ws 0) (slice_index ws 1) (slice_index ws 2) (slice_index ws 3) (slice_index ws 4))
unfolding finding_line
text_line ws = refl

-- the letters of the longest name, of the longest word, of a field, which is a word behind a space, and of the longest line with its end
abbrev pub most_name : ℕ
most_name = 16

abbrev pub most_word : ℕ
most_word = 20

abbrev pub most_field : ℕ
most_field = 1 + most_word

abbrev pub most_letters : ℕ
most_letters = most_name + 4 * most_field + 1
