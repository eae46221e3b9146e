-- Two lists that are permutations of each other: where each place of one is found in the other, and that sums over them are the same.
use Rattle.std.specs.Prelude.{◌≡◌, refl, ℕ, zero, suc, ◌+◌, ◌<◌, ◌≤◌, length, get_or, take}
use Rattle.std.proofs.Common.{sym, ap, ◌∙◌, le_of_suc-le-suc, not-suc-le-zero, le_trans, le_of_eq, arith, length-take, get_or-take}
use mathlib.Core.List.{List, ◌∷◌, Permᴰ}
use Rattle.lists.specs.Below.{sum_below}
use Rattle.lists.specs.Below.{sum_same}
use Rattle.check_order.specs.Below.{sum_front}

-- place i of the first list is place `to i` of the second
pub record Places {A : Type 0} (d : A) (a b : List A) : Type 0 where
  pub to : ℕ → ℕ
  pub back : ℕ → ℕ
  pub back_to : (i : ℕ) → back (to i) ≡ i
  pub to_back : (i : ℕ) → to (back i) ≡ i
  pub as_long : length a ≡ length b
  pub to_below : (n i : ℕ) → length a ≤ n → i < n → to i < n
  pub back_below : (n i : ℕ) → length b ≤ n → i < n → back i < n
  pub same_there : (i : ℕ) → get_or b (to i) d ≡ get_or a i d

-- the first place stays
abbrev pub under : (ℕ → ℕ) → ℕ → ℕ
under f zero = zero
under f (suc i) = suc (f i)

under_back : (f g : ℕ → ℕ) → ((i : ℕ) → g (f i) ≡ i) → (i : ℕ) → under g (under f i) ≡ i
under_back f g h zero = refl
under_back f g h (suc i) = ap suc (h i)

under_below : (f : ℕ → ℕ) (m : ℕ) → ((n i : ℕ) → m ≤ n → i < n → f i < n) → (n i : ℕ) → suc m ≤ n → i < n → under f i < n
under_below f m h zero i l k = absurd (not-suc-le-zero l)
under_below f m h (suc n) zero l k = omega arith
under_below f m h (suc n) (suc i) l k = let z = h n i (le_of_suc-le-suc l) (le_of_suc-le-suc k) in omega arith

-- the first two change places
abbrev pub turn : ℕ → ℕ
turn zero = 1
turn (suc zero) = 0
turn (suc (suc i)) = suc (suc i)

turn_turn : (i : ℕ) → turn (turn i) ≡ i
turn_turn zero = refl
turn_turn (suc zero) = refl
turn_turn (suc (suc i)) = refl

turn_below : (m n i : ℕ) → suc (suc m) ≤ n → i < n → turn i < n
turn_below m n zero l k = omega arith
turn_below m n (suc zero) l k = omega arith
turn_below m n (suc (suc i)) l k = k

module _ {A : Type 0} (d : A) where
  under_same : (f : ℕ → ℕ) (x y : A) (a b : List A) → x ≡ y → ((i : ℕ) → get_or b (f i) d ≡ get_or a i d)
      → (i : ℕ) → get_or (y ∷ b) (under f i) d ≡ get_or (x ∷ a) i d
  under_same f x y a b e h zero = sym e
  under_same f x y a b e h (suc i) = h i

  turn_same : (x y u v : A) (a : List A) → x ≡ v → y ≡ u → (i : ℕ) → get_or (u ∷ v ∷ a) (turn i) d ≡ get_or (x ∷ y ∷ a) i d
  turn_same x y u v a e h zero = sym e
  turn_same x y u v a e h (suc zero) = sym h
  turn_same x y u v a e h (suc (suc i)) = refl

  pub places : {a b : List A} → Permᴰ a b → Places d a b
  places Permᴰ.nil =
      record {
        to = λ i. i;
        back = λ i. i;
        back_to = λ i. refl;
        to_back = λ i. refl;
        as_long = refl;
        to_below = λ n i l k. k;
        back_below = λ n i l k. k;
        same_there = λ i. refl;
      }
  places (Permᴰ.cons {a = x} {b = y} {l₁ = a} {l₂ = b} e p) =
      let m = places p in
      record {
        to = under m.to;
        back = under m.back;
        back_to = under_back m.to m.back m.back_to;
        to_back = under_back m.back m.to m.to_back;
        as_long = ap suc m.as_long;
        to_below = under_below m.to (length a) m.to_below;
        back_below = under_below m.back (length b) m.back_below;
        same_there = under_same m.to x y a b e m.same_there;
      }
  places (Permᴰ.swap {a = x} {b = y} {a' = u} {b' = v} {l = a} e h) =
      record {
        to = turn;
        back = turn;
        back_to = turn_turn;
        to_back = turn_turn;
        as_long = refl;
        to_below = turn_below (length a);
        back_below = turn_below (length a);
        same_there = turn_same x y u v a e h;
      }
  places (Permᴰ.trans p q) =
      let m = places p in
      let o = places q in
      record {
        to = λ i. o.to (m.to i);
        back = λ i. m.back (o.back i);
        back_to = λ i. ap m.back (o.back_to (m.to i)) ∙ m.back_to i;
        to_back = λ i. ap o.to (m.to_back (o.back i)) ∙ o.to_back i;
        as_long = m.as_long ∙ o.as_long;
        to_below = λ n i l k. o.to_below n (m.to i) (le_trans (le_of_eq (sym m.as_long)) l) (m.to_below n i l k);
        back_below = λ n i l k. m.back_below n (o.back i) (le_trans (le_of_eq o.as_long) l) (o.back_below n i l k);
        same_there = λ i. o.same_there (m.to i) ∙ m.same_there i;
      }

  pub first_few : (n : ℕ) (a : List A) → length (take n a) ≤ n
  first_few n a = omega (arith, length-take n a)

  -- ---- a sum over the places is the same for both
  module _ (g : A → ℕ) where
    pub sum_permuted : {a b : List A} → Permᴰ a b → (n : ℕ) → length a ≤ n → sum_below (λ i. g (get_or a i d)) n ≡ sum_below (λ i. g (get_or b i d)) n
    sum_permuted Permᴰ.nil n l = refl
    sum_permuted (Permᴰ.cons e p) zero l = absurd (not-suc-le-zero l)
    sum_permuted (Permᴰ.cons {a = x} {b = y} {l₁ = a} {l₂ = b} e p) (suc n) l =
        sum_front (λ i. g (get_or (x ∷ a) i d)) n
        ∙ ap (λ (v : A). g v + sum_below (λ i. g (get_or a i d)) n) e
        ∙ ap (λ (v : ℕ). g y + v) (sum_permuted p n (le_of_suc-le-suc l))
        ∙ sym (sum_front (λ i. g (get_or (y ∷ b) i d)) n)
    sum_permuted (Permᴰ.swap e h) zero l = absurd (not-suc-le-zero l)
    sum_permuted (Permᴰ.swap e h) (suc zero) l = absurd (not-suc-le-zero (le_of_suc-le-suc l))
    sum_permuted (Permᴰ.swap {a = x} {b = y} {a' = u} {b' = v} {l = a} e h) (suc (suc n)) l =
        let rest = sum_below (λ i. g (get_or a i d)) n in
        two x y ∙ ap (λ (k : A). g k + (g y + rest)) e ∙ ap (λ (k : A). g v + (g k + rest)) h ∙ swapped (g v) (g u) rest ∙ sym (two u v)
      where
        two : (r s : A) → sum_below (λ i. g (get_or (r ∷ s ∷ a) i d)) (suc (suc n)) ≡ g r + (g s + sum_below (λ i. g (get_or a i d)) n)
        two r s = sum_front (λ i. g (get_or (r ∷ s ∷ a) i d)) (suc n) ∙ ap (λ (k : ℕ). g r + k) (sum_front (λ i. g (get_or (s ∷ a) i d)) n)

        swapped : (p q r : ℕ) → p + (q + r) ≡ q + (p + r)
        swapped p q r = omega arith
    sum_permuted (Permᴰ.trans p q) n l = sum_permuted p n l ∙ sum_permuted q n (le_trans (le_of_eq (sym (places p).as_long)) l)

    -- of the first n of each
    pub sum_first : (n : ℕ) (a b : List A) → Permᴰ (take n a) (take n b) → sum_below (λ i. g (get_or a i d)) n ≡ sum_below (λ i. g (get_or b i d)) n
    sum_first n a b p = own a ∙ sum_permuted p n (first_few n a) ∙ sym (own b)
      where
        own : (l : List A) → sum_below (λ i. g (get_or l i d)) n ≡ sum_below (λ i. g (get_or (take n l) i d)) n
        own l = sum_same (λ i. g (get_or l i d)) (λ i. g (get_or (take n l) i d)) n (λ k h. ap g (sym (get_or-take n l k d h)))
