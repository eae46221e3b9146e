-- A number in decimal digits, without leading zeros, in ASCII; and that the digits' value is the number.
use Rattle.std.specs.Prelude.{ℕ, zero, suc, ◌+◌, ◌/◌, ◌%◌, ◌^◌, ◌≤◌, ◌<◌, Bool, true, false, cond, List, [], ◌∷◌, ◌++◌, ◌≡◌, refl, ltb, length}
use Rattle.std.proofs.Common.{sym, ◌∙◌, arith, div-add-mod', div-lt_iff_lt-mul, mod-lt, pow-suc}
use Rattle.std.proofs.Common.{length-append, lt-ltb, le-ltb, ltb-true}
use Rattle.std.proofs.lemmas.Fmt.{AppendsLastDigit, decimal_from_appends, length-decimal-le}
use Rattle.std.specs.Fmt.{decimal}
use Rattle.show.specs.Digits.{digit_value, value_from, value_of, value_more}

-- at most k digits
unfoldable pub decimal_to : ℕ → ℕ → List ℕ
decimal_to zero n = []
decimal_to (suc k) n = cond (ltb n 10) ((48 + n) ∷ []) (decimal_to k (n / 10) ++ ((48 + n % 10) ∷ []))

-- RULES: Programs. A word of 64 bits has at most twenty digits.
abbrev pub decimal_of : ℕ → List ℕ
decimal_of n = decimal_to 20 n

-- ---- laws

length_by : (k n : ℕ) (small : Bool) → length (decimal_to k (n / 10)) ≤ k
    → length (cond small ((48 + n) ∷ []) (decimal_to k (n / 10) ++ ((48 + n % 10) ∷ []))) ≤ suc k
length_by k n true h = omega arith
length_by k n false h = simp length-append (omega arith)

pub decimal_length : (k n : ℕ) → length (decimal_to k n) ≤ k
unfolding decimal_to
decimal_length zero n = omega arith
decimal_length (suc k) n = length_by k n (ltb n 10) (decimal_length k (n / 10))

-- a decimal digit shown and read is the digit
digit_value_lem : (d : ℕ) → d < 10 → digit_value (48 + d) ≡ d
unfolding digit_value
digit_value_lem d h = rw (lt-ltb (48 + d) 58 (omega arith)) (omega arith)

value_by : (k n : ℕ) (small : Bool) → ltb n 10 ≡ small → value_of 10 (decimal_to k (n / 10)) ≡ n / 10
    → value_of 10 (cond small ((48 + n) ∷ []) (decimal_to k (n / 10) ++ ((48 + n % 10) ∷ []))) ≡ n
unfolding value_from
value_by k n true e h = let l = ltb-true n 10 e in rw (digit_value_lem n (omega arith)) (omega arith)
value_by k n false e h =
    value_more 10 0 (decimal_to k (n / 10)) (48 + n % 10)
    ∙ rw (h, digit_value_lem (n % 10) (mod-lt n (omega arith))) (div-add-mod' n 10)

-- a tenth of a number below a power of ten is below the power before
tenth : (k n : ℕ) → n < 10 ^ suc k → n / 10 < 10 ^ k
tenth k n h = (div-lt_iff_lt-mul {k = 10} {x = n} {y = 10 ^ k} (omega arith)).1 (rw (← pow-suc 10 k) h)

-- RULES: Programs. The digits of a number, read back, are the number.
pub decimal_value : (k n : ℕ) → n < 10 ^ k → value_of 10 (decimal_to k n) ≡ n
unfolding decimal_to value_from
decimal_value zero n h = omega arith
decimal_value (suc k) n h = value_by k n (ltb n 10) refl (decimal_value k (n / 10) (tenth k n h))

pub decimal_is : (n : ℕ) → n < 18446744073709551616 → value_of 10 (decimal_of n) ≡ n
decimal_is n h = decimal_value 20 n (omega arith)

appends : AppendsLastDigit decimal_to
unfolding decimal_to
appends = record {
  one = λ k n h. rw (lt-ltb n 10 h) refl;
  more = λ k n h. rw (le-ltb n 10 h) refl;
}

-- they are what `{}` writes of a number
pub decimal_std : (n : ℕ) → n < 18446744073709551616 → decimal n ≡ decimal_of n
decimal_std n h = sym (decimal_from_appends decimal_to appends 20 n h (length-decimal-le 20 n (omega arith) (omega arith) h))
