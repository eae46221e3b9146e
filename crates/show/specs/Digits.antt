-- What digits in ASCII mean as a number: the reading that the laws on printed numbers speak of, and that the planner's number is read by.
use Rattle.std.specs.Prelude.{ℕ, ◌+◌, ◌*◌, ◌-◌, cond, List, [], ◌∷◌, ◌++◌, ◌≡◌, refl, ltb}

-- 0 to 9, then A to F from 10 on
unfoldable pub digit_value : ℕ → ℕ
digit_value c = cond (ltb c 58) (c - 48) (c - 55)

-- the number n, and digits behind it
unfoldable pub value_from : ℕ → ℕ → List ℕ → ℕ
value_from base n [] = n
value_from base n (c ∷ cs) = value_from base (n * base + digit_value c) cs

-- RULES: Programs. The value of digits in a base, the highest first.
abbrev pub value_of : ℕ → List ℕ → ℕ
value_of base cs = value_from base 0 cs

-- one digit more
pub value_more : (base n : ℕ) (cs : List ℕ) (c : ℕ) → value_from base n (cs ++ (c ∷ [])) ≡ value_from base n cs * base + digit_value c
unfolding value_from
value_more base n [] c = refl
value_more base n (d ∷ cs) c = value_more base (n * base + digit_value d) cs c
