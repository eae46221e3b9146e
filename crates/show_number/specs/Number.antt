-- A word as a number: decimal digits and nothing else.
use Rattle.std.specs.Prelude.{ℕ, suc, ◌+◌, ◌*◌, ◌<◌, ◌≤◌, Bool, true, false, not, cond, ◌&&◌, List, [], ◌∷◌, ◌≡◌, refl, ltb, leb, eqb, length, get_or, drop}
use Rattle.std.specs.Prelude.{min, ◌-◌, take, Option, Some, None}
use Rattle.std.proofs.Common.{sym, ◌∙◌, arith, lt-ltb, le-ltb, ltb-true, ltb-false, leb-true, eqb-true, drop-cons, take-suc}
use Rattle.std.proofs.Math.Seq.{drop-length}
use Rattle.show.specs.Digits.{digit_value, value_from, value_of, value_more}

abbrev pub is_digit : ℕ → Bool
is_digit c = leb 48 c && leb c 57

unfoldable pub all_digits : List ℕ → Bool
all_digits [] = true
all_digits (c ∷ cs) = cond (is_digit c) (all_digits cs) false

-- RULES: Programs. A word is a number if it has letters, and each is a decimal digit.
unfoldable pub is_number : List ℕ → Bool
is_number w = all_digits w && not (eqb (length w) 0)

-- A number over a million counts as a million: no order has as many boxes.
abbrev pub most_number : ℕ
most_number = 1000000

unfoldable pub capped : ℕ → ℕ
capped v = cond (ltb v most_number) v most_number

-- RULES: Programs. What a word says as a number, and none where it is no number.
unfoldable pub number_of : List ℕ → Option ℕ
number_of w = cond (is_number w) (Some (capped (value_of 10 w))) None

-- ---- laws

capped_by : (v d : ℕ) (small : Bool) → ltb v most_number ≡ small → capped (cond small v most_number * 10 + d) ≡ capped (v * 10 + d)
unfolding capped
capped_by v d true e = refl
capped_by v d false e =
    let l = ltb-false v most_number e in
    rw (le-ltb (most_number * 10 + d) most_number (omega arith), le-ltb (v * 10 + d) most_number (omega arith))

-- one digit more of a capped value is the capped value with the digit
pub capped_more : (v d : ℕ) → capped (capped v * 10 + d) ≡ capped (v * 10 + d)
unfolding capped
capped_more v d = capped_by v d (ltb v most_number) refl

few_by : (v : ℕ) (small : Bool) → ltb v most_number ≡ small → cond small v most_number ≤ most_number
few_by v true e = let l = ltb-true v most_number e in omega arith
few_by v false e = omega arith

pub capped_few : (v : ℕ) → capped v ≤ most_number
unfolding capped
capped_few v = few_by v (ltb v most_number) refl

-- the digits from letter i on: the letter, and those behind it
pub digits_from : (w : List ℕ) (i : ℕ) → i < length w → all_digits (drop i w) ≡ cond (is_digit (get_or w i 0)) (all_digits (drop (suc i) w)) false
unfolding all_digits
digits_from w i h = rw (drop-cons w i 0 h)

pub no_more : (w : List ℕ) → all_digits (drop (length w) w) ≡ true
unfolding all_digits
no_more w = rw (drop-length w)

pub value_none : (w : List ℕ) → 0 ≡ capped (value_of 10 (take 0 w))
unfolding capped value_from
value_none w = refl

-- a word without letters is no number, nor is one with a letter that is no digit
pub none_of_empty : (w : List ℕ) → eqb (length w) 0 ≡ true → number_of w ≡ None
unfolding number_of is_number all_digits
none_of_empty [] e = refl
none_of_empty (c ∷ cs) e = let z = eqb-true _ _ e in absurd (omega arith)

pub none_of_letter : (w : List ℕ) (i : ℕ) → i < length w → is_digit (get_or w i 0) ≡ false → all_digits (drop i w) ≡ all_digits w → number_of w ≡ None
unfolding number_of is_number
none_of_letter w i h e all = rw (← all, digits_from w i h, e) refl

-- a digit leaves it to the letters behind it
pub goes_on : (w : List ℕ) (i : ℕ) → i < length w → is_digit (get_or w i 0) ≡ true → all_digits (drop i w) ≡ all_digits w
    → all_digits (drop (suc i) w) ≡ all_digits w
goes_on w i h e all = (rw e at (sym (digits_from w i h))) ∙ all

-- a word with letters and without one that is no digit is a number
pub some_of_digits : (w : List ℕ) → eqb (length w) 0 ≡ false → all_digits (drop (length w) w) ≡ all_digits w
    → number_of w ≡ Some (capped (value_of 10 w))
unfolding number_of is_number
some_of_digits w e all = rw (← all, no_more w, e) refl

both_by : (low high : Bool) → (low && high) ≡ true → high ≡ true
both_by true high e = e
both_by false true e = refl
both_by false false e = e

digit_is : (c : ℕ) → is_digit c ≡ true → digit_value c ≡ c - 48
unfolding digit_value
digit_is c e = let few = leb-true _ _ (both_by (leb 48 c) (leb c 57) e) in rw (lt-ltb c 58 (omega arith)) refl

cap_by : (v : ℕ) (small : Bool) → ltb v most_number ≡ small → min v most_number ≡ cond small v most_number
cap_by v true e = let l = ltb-true v most_number e in omega arith
cap_by v false e = let l = ltb-false v most_number e in omega arith

capped_min : (v : ℕ) → min v most_number ≡ capped v
unfolding capped
capped_min v = cap_by v (ltb v most_number) refl

-- the capped value of one digit more
pub value_next : (w : List ℕ) (i n : ℕ) → i < length w → is_digit (get_or w i 0) ≡ true → n ≡ capped (value_of 10 (take i w))
    → min (n * 10 + (get_or w i 0 - 48)) most_number ≡ capped (value_of 10 (take (suc i) w))
value_next w i n h e said =
    let c = get_or w i 0 in
    let v = value_of 10 (take i w) in
    let more : capped (capped v * 10 + digit_value c) ≡ capped (value_of 10 (take (suc i) w)) =
    capped_more v (digit_value c) ∙ rw (take-suc w i 0 h, value_more 10 0 (take i w) c) refl in
    capped_min (n * 10 + (c - 48)) ∙ rw (said, ← digit_is c e) more
