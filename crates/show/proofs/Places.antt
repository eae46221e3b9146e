-- The sixteen places that std writes of a number are `hex_of`.
use Rattle.std.proofs.Common.{◌≡◌, refl, sym, ap, ◌∙◌, arith, ℕ, zero, suc, ◌+◌, ◌-◌, ◌*◌, ◌/◌, ◌%◌, ◌^◌, ◌<◌, ◌≤◌}
use Rattle.std.proofs.Common.{Bool, true, false, List, [], ◌∷◌, ◌++◌, length, replicate, cond, nat_eq, append-nil, pow-suc, div-lt_iff_lt-mul, eqb-true}
use Rattle.std.proofs.lemmas.Bool.{eqb-false}
use Rattle.std.proofs.Math.Nat.{div-div-eq-div-mul}
use Rattle.std.specs.Fmt.{digits, digits_onto, digit_glyph, padded_integral, format_spec, char_count}
use Rattle.show.specs.Hex.{hex_of}

-- the last m digits of n, and what stands behind them
unfoldable places : ℕ → ℕ → List ℕ → List ℕ
places zero n rest = rest
places (suc m) n rest = places m (n / 16) (digit_glyph true (n % 16) ∷ rest)

zero_first : (m : ℕ) (rest : List ℕ) → replicate m 48 ++ (48 ∷ rest) ≡ 48 ∷ (replicate m 48 ++ rest)
zero_first zero rest = refl
zero_first (suc m) rest = ap (λ l. 48 ∷ l) (zero_first m rest)

places_of_zero : (m : ℕ) (rest : List ℕ) → places m 0 rest ≡ replicate m 48 ++ rest
unfolding places
places_of_zero zero rest = refl
places_of_zero (suc m) rest = places_of_zero m (48 ∷ rest) ∙ zero_first m rest

positive : (m : ℕ) {q : ℕ} → q < 16 ^ m → (q ≡ 0 → ⊥) → 0 < m
positive zero l some = absurd (some (omega arith))
positive (suc m) l some = omega arith

-- the digits of n, of which `last` says whether it has one, behind as many zeros as they are short of m + 1 places
filled_by : (m k n : ℕ) (rest : List ℕ) (last : Bool) → nat_eq (n / 16) 0 ≡ last → n / 16 < 16 ^ m
    → (0 < m → replicate (m + suc (length rest) - length (digits_onto k 16 true (n / 16) (digit_glyph true (n % 16) ∷ rest))) 48
    ++ digits_onto k 16 true (n / 16) (digit_glyph true (n % 16) ∷ rest) ≡ places m (n / 16) (digit_glyph true (n % 16) ∷ rest))
    → let ds = cond last (digit_glyph true (n % 16) ∷ rest) (digits_onto k 16 true (n / 16) (digit_glyph true (n % 16) ∷ rest)) in
    replicate (suc m + length rest - length ds) 48 ++ ds ≡ places (suc m) n rest
unfolding places
filled_by m k n rest true e low more =
    let z : n / 16 ≡ 0 = eqb-true _ _ e in
    let p : suc m + length rest - suc (length rest) ≡ m = omega arith in
    rw (z, p) (sym (places_of_zero m (digit_glyph true (n % 16) ∷ rest)))
filled_by m k n rest false e low more =
    let p : suc m + length rest ≡ m + suc (length rest) = omega arith in rw p (more (positive m low (eqb-false _ _ e)))

-- a number's digits behind as many zeros as they are short of m places are its last m digits
filled : (m k n : ℕ) (rest : List ℕ) → 0 < m → m ≤ k → n < 16 ^ m
    → replicate (m + length rest - length (digits_onto k 16 true n rest)) 48 ++ digits_onto k 16 true n rest ≡ places m n rest
filled zero k n rest some room h = absurd (omega arith)
filled (suc m) zero n rest some room h = absurd (omega arith)
filled (suc m) (suc k) n rest some room h =
    let low : n / 16 < 16 ^ m = (div-lt_iff_lt-mul {k = 16} {x = n} {y = 16 ^ m} (omega arith)).1 (rw (← pow-suc 16 m) h) in
    filled_by m k n rest (nat_eq (n / 16) 0) refl low
    (λ more. filled m k (n / 16) (digit_glyph true (n % 16) ∷ rest) more (omega arith) low)

-- the digits that `hex_of` names
hex_places : (n : ℕ) → places 16 n [] ≡ hex_of n
unfolding places hex_of
hex_places n =
    let by : (d : ℕ) → n / d / 16 ≡ n / (d * 16) = λ d. div-div-eq-div-mul n d 16 in
    rw (
      by 16,
      by 256,
      by 4096,
      by 65536,
      by 1048576,
      by 16777216,
      by 268435456,
      by 4294967296,
      by 68719476736,
      by 1099511627776,
      by 17592186044416,
      by 281474976710656,
      by 4503599627370496,
      by 72057594037927936,
    )
    refl

-- RULES: Programs. What `{:016X}` writes of a word.
pub sixteen_places : (n : ℕ) → n < 18446744073709551616 → padded_integral (format_spec 32 0 4 16 (2 ^ 64 - 1)) false [] (digits 16 true n) ≡ hex_of n
unfolding padded_integral char_count digits
sixteen_places n h =
    let ds = digits_onto 64 16 true n [] in
    let p : 16 - length ds - 0 - 0 ≡ 16 + 0 - length ds = omega arith in
    rw (p, append-nil ds) (filled 16 64 n [] (omega arith) (omega arith) h ∙ hex_places n)
