-- A number as sixteen upper-case hexadecimal digits, in ASCII.
use Rattle.std.specs.Prelude.{ℕ, ◌+◌, ◌*◌, ◌/◌, ◌%◌, ◌<◌, Bool, true, false, cond, List, [], ◌∷◌, ◌≡◌, refl, ltb}
use Rattle.std.proofs.Common.{sym, arith, div-add-mod', mod-lt, lt-ltb, le-ltb, ltb-true, ltb-false}
use Rattle.std.proofs.Math.Nat.{div-div-eq-div-mul, div-eq_of_lt}
use Rattle.show.specs.Digits.{digit_value, value_from, value_of}

-- 0 to 9, then A to F
abbrev pub glyph : ℕ → ℕ
glyph v = cond (ltb v 10) (48 + v) (55 + v)

-- RULES: Programs. A float's bits, as they are printed.
unfoldable pub hex_of : ℕ → List ℕ
hex_of n =
    glyph (n / 1152921504606846976 % 16)
    ∷ glyph (n / 72057594037927936 % 16)
    ∷ glyph (n / 4503599627370496 % 16)
    ∷ glyph (n / 281474976710656 % 16)
    ∷ glyph (n / 17592186044416 % 16)
    ∷ glyph (n / 1099511627776 % 16)
    ∷ glyph (n / 68719476736 % 16)
    ∷ glyph (n / 4294967296 % 16)
    ∷ glyph (n / 268435456 % 16)
    ∷ glyph (n / 16777216 % 16)
    ∷ glyph (n / 1048576 % 16)
    ∷ glyph (n / 65536 % 16)
    ∷ glyph (n / 4096 % 16)
    ∷ glyph (n / 256 % 16)
    ∷ glyph (n / 16 % 16)
    ∷ glyph (n % 16)
    ∷ []

-- one half, as it is printed
pub half : hex_of 0x3FE0000000000000 ≡ 51 ∷ 70 ∷ 69 ∷ 48 ∷ 48 ∷ 48 ∷ 48 ∷ 48 ∷ 48 ∷ 48 ∷ 48 ∷ 48 ∷ 48 ∷ 48 ∷ 48 ∷ 48 ∷ []
unfolding hex_of
half = refl

-- ---- the digits' value is the number

-- a digit shown and read is the digit
shown : (v : ℕ) (small : Bool) → ltb v 10 ≡ small → v < 16 → digit_value (cond small (48 + v) (55 + v)) ≡ v
unfolding digit_value
shown v true e h = let l = ltb-true v 10 e in rw (lt-ltb (48 + v) 58 (omega arith)) (omega arith)
shown v false e h = let l = ltb-false v 10 e in rw (le-ltb (55 + v) 58 (omega arith)) (omega arith)

-- x is what the digits before the place d say of n: with the digit at d it is what they say there
next : (n d x : ℕ) → x ≡ n / (d * 16) → x * 16 + digit_value (glyph (n / d % 16)) ≡ n / d
next n d x e =
    let g = shown (n / d % 16) (ltb (n / d % 16) 10) refl (mod-lt (n / d) (omega arith)) in
    let q : n / d / 16 ≡ n / (d * 16) = div-div-eq-div-mul n d 16 in
    let s : n / d / 16 * 16 + n / d % 16 ≡ n / d = div-add-mod' (n / d) 16 in
    rw (g, e, ← q) s

-- RULES: Programs. The sixteen digits of a word, read back, are the word.
pub hex_value : (n : ℕ) → n < 18446744073709551616 → value_of 16 (hex_of n) ≡ n
unfolding hex_of value_from
hex_value n h =
    let a : 0 ≡ n / 18446744073709551616 = sym (div-eq_of_lt h) in
    let d15 = next n 1152921504606846976 _ a in
    let d14 = next n 72057594037927936 _ d15 in
    let d13 = next n 4503599627370496 _ d14 in
    let d12 = next n 281474976710656 _ d13 in
    let d11 = next n 17592186044416 _ d12 in
    let d10 = next n 1099511627776 _ d11 in
    let d9 = next n 68719476736 _ d10 in
    let d8 = next n 4294967296 _ d9 in
    let d7 = next n 268435456 _ d8 in
    let d6 = next n 16777216 _ d7 in
    let d5 = next n 1048576 _ d6 in
    let d4 = next n 65536 _ d5 in
    let d3 = next n 4096 _ d4 in
    let d2 = next n 256 _ d3 in
    let d1 = next n 16 _ d2 in
    let g = shown (n % 16) (ltb (n % 16) 10) refl (mod-lt n (omega arith)) in
    rw (d1, g) (div-add-mod' n 16)
