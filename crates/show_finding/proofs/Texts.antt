-- A name and fields as `write!` joins them are the text of a finding, where the text of its number has those fields.
use Rattle.std.proofs.Common.{◌≡◌, refl, ℕ, ◌<◌, List, [], ◌∷◌, ◌++◌, append-nil, append_assoc, arith, lt-ltb, ne_eqb, slice_index}
use Rattle.std.specs.Fmt.{decimal}
use Rattle.show.specs.Hex.{hex_of}
use Rattle.show_finding.specs.Names.{name_last, wrongly_unplaced_name}
use Rattle.show_finding.specs.Decimal.{decimal_of, decimal_std}
use Rattle.show_finding.specs.Line.{used_of, word_of, field_of, finding_text, text_of}

abbrev pub word : List ℕ → ℕ → ℕ
word = slice_index

abbrev pub IsWord : ℕ → Type 0
IsWord w = w < 18446744073709551616

pub one_number : (ws : List ℕ) (n : ℕ) (name : List ℕ)
    → ((a b c d : ℕ) → finding_text n a b c d ≡ name ++ (32 ∷ decimal_of a) ++ [] ++ [] ++ [])
    → word ws 0 ≡ n → IsWord (word ws 1)
    → name ++ (32 ∷ decimal (word ws 1)) ≡ text_of ws
one_number ws n name text e h1 =
    rw (e, text (word ws 1) (word ws 2) (word ws 3) (word ws 4), decimal_std _ h1)
    (simp append-nil refl)

pub two_numbers : (ws : List ℕ) (n : ℕ) (name : List ℕ)
    → ((a b c d : ℕ) → finding_text n a b c d ≡ name ++ (32 ∷ decimal_of a) ++ (32 ∷ decimal_of b) ++ [] ++ [])
    → word ws 0 ≡ n → IsWord (word ws 1) → IsWord (word ws 2)
    → name ++ (32 ∷ (decimal (word ws 1) ++ (32 ∷ decimal (word ws 2)))) ≡ text_of ws
two_numbers ws n name text e h1 h2 =
    rw (e, text (word ws 1) (word ws 2) (word ws 3) (word ws 4), decimal_std _ h1, decimal_std _ h2)
    (simp (append-nil, append_assoc) refl)

pub three_numbers : (ws : List ℕ) (n : ℕ) (name : List ℕ)
    → ((a b c d : ℕ) → finding_text n a b c d ≡ name ++ (32 ∷ decimal_of a) ++ (32 ∷ decimal_of b) ++ (32 ∷ decimal_of c) ++ [])
    → word ws 0 ≡ n → IsWord (word ws 1) → IsWord (word ws 2) → IsWord (word ws 3)
    → name ++ (32 ∷ (decimal (word ws 1) ++ (32 ∷ (decimal (word ws 2) ++ (32 ∷ decimal (word ws 3)))))) ≡ text_of ws
three_numbers ws n name text e h1 h2 h3 =
    rw (e, text (word ws 1) (word ws 2) (word ws 3) (word ws 4), decimal_std _ h1, decimal_std _ h2, decimal_std _ h3)
    (simp (append-nil, append_assoc) refl)

pub four_numbers : (ws : List ℕ) (n : ℕ) (name : List ℕ)
    → ((a b c d : ℕ) → finding_text n a b c d ≡ name ++ (32 ∷ decimal_of a) ++ (32 ∷ decimal_of b) ++ (32 ∷ decimal_of c) ++ (32 ∷ decimal_of d))
    → word ws 0 ≡ n → IsWord (word ws 1) → IsWord (word ws 2) → IsWord (word ws 3) → IsWord (word ws 4)
    → name ++ (32 ∷ (decimal (word ws 1) ++ (32 ∷ (decimal (word ws 2) ++ (32 ∷ (decimal (word ws 3) ++ (32 ∷ decimal (word ws 4)))))))) ≡ text_of ws
four_numbers ws n name text e h1 h2 h3 h4 =
    rw (e, text (word ws 1) (word ws 2) (word ws 3) (word ws 4), decimal_std _ h1, decimal_std _ h2, decimal_std _ h3, decimal_std _ h4)
    (simp append_assoc refl)

pub two_floats : (ws : List ℕ) (n : ℕ) (name : List ℕ)
    → ((a b c d : ℕ) → finding_text n a b c d ≡ name ++ (32 ∷ hex_of a) ++ (32 ∷ hex_of b) ++ [] ++ [])
    → word ws 0 ≡ n
    → name ++ (32 ∷ (hex_of (word ws 1) ++ (32 ∷ hex_of (word ws 2)))) ≡ text_of ws
two_floats ws n name text e =
    rw (e, text (word ws 1) (word ws 2) (word ws 3) (word ws 4))
    (simp (append-nil, append_assoc) refl)

pub numbers_and_floats : (ws : List ℕ) (n : ℕ) (name : List ℕ)
    → ((a b c d : ℕ) → finding_text n a b c d ≡ name ++ (32 ∷ decimal_of a) ++ (32 ∷ decimal_of b) ++ (32 ∷ hex_of c) ++ (32 ∷ hex_of d))
    → word ws 0 ≡ n → IsWord (word ws 1) → IsWord (word ws 2)
    → name ++ (32 ∷ (decimal (word ws 1) ++ (32 ∷ (decimal (word ws 2) ++ (32 ∷ (hex_of (word ws 3) ++ (32 ∷ hex_of (word ws 4)))))))) ≡ text_of ws
numbers_and_floats ws n name text e h1 h2 =
    rw (e, text (word ws 1) (word ws 2) (word ws 3) (word ws 4), decimal_std _ h1, decimal_std _ h2)
    (simp append_assoc refl)

-- past the tenth
pub last_text : (n : ℕ) → 10 < n → (a b c d : ℕ) → finding_text n a b c d ≡ wrongly_unplaced_name ++ (32 ∷ decimal_of a) ++ [] ++ [] ++ []
unfolding finding_text field_of word_of used_of
last_text n h a b c d =
    rw (
      name_last n h,
      ne_eqb n 2 (λ e. omega arith),
      ne_eqb n 3 (λ e. omega arith),
      ne_eqb n 4 (λ e. omega arith),
      ne_eqb n 8 (λ e. omega arith),
      ne_eqb n 9 (λ e. omega arith),
      lt-ltb 9 n (omega arith),
    )
    refl
