-- What the order is: a permutation of the listing in which each box comes before those of smaller volume, and before those of equal volume
-- that are later in the listing; and there is no other such list.
use Rattle.std.specs.Prelude.{◌≡◌, refl, Bool, true, false, not, cond, ◌&&◌, ◌||◌, ℕ, zero, suc, ◌<◌, ltb, length, get_or, Float}
use Rattle.std.proofs.Common.{sym, ◌∙◌, ap, ⊎_elim, suc-le-suc, not-suc-le-zero, le_of_suc-le-suc, eq-or-lt_of_le, arith, ltb-true, ltb-false, lt-ltb, le-ltb}
use Rattle.std.proofs.Common.{length-append}
use mathlib.Core.List.Permᴰ
use mathlib.Core.List.{List, [], ◌∷◌, ◌++◌, map, Permᴰ}
use Rattle.std.proofs.lemmas.List.{map-append, get_or_at}
use Rattle.std.proofs.Math.ListN.{get_or-append}
use Rattle.std.specs.Float.Ieee.{lt}
use Rattle.floats.specs.Weak.{Weak, Number, true_false, on_weak, lex, lex_weak}
use Rattle.measures.specs.declared.Kind.{Kind}
use Rattle.plan_boxes.specs.declared.Instance.{Instance}
use Rattle.plan_boxes.specs.Turns.{turn_of}
use Rattle.plan_boxes.specs.Listing.{listing_of}
use Rattle.point_order.specs.Order.{insert, falling_of}
use Rattle.point_order.specs.Insert.{insert_length, insert_all, falling_length, falling_below}
use Rattle.point_run.specs.Order.{volume_of, falling_boxes}

-- the places of the listing, in its order
unfoldable pub up_to : ℕ → List ℕ
up_to zero = []
up_to (suc n) = up_to n ++ (n ∷ [])

-- of two boxes, the one of greater volume comes first, and of equal volumes the one that is first in the listing
abbrev pub sooner : (ℕ → Float) → ℕ → ℕ → Bool
sooner vol = lex (λ a b. lt (vol b) (vol a)) ltb

-- each comes before all that stand behind it
abbrev pub Ordered : (ℕ → Float) → List ℕ → Type 0
Ordered vol l = (i j : ℕ) → i < j → j < length l → sooner vol (get_or l i 0) (get_or l j 0) ≡ true

-- ---- a permutation

insert_perm : (vol : ℕ → Float) (t : ℕ) (l : List ℕ) → Permᴰ (insert vol t l) (t ∷ l)
unfolding insert
insert_perm vol t [] = Permᴰ.refl (t ∷ [])
insert_perm vol t (u ∷ l) = go (lt (vol u) (vol t)) (insert_perm vol t l)
  where
    go : (b : Bool) → Permᴰ (insert vol t l) (t ∷ l) → Permᴰ (cond b (t ∷ u ∷ l) (u ∷ insert vol t l)) (t ∷ u ∷ l)
    go true p = Permᴰ.refl (t ∷ u ∷ l)
    go false p = Permᴰ.trans (Permᴰ.cons refl p) (Permᴰ.swap refl refl)

pub falling_perm : (vol : ℕ → Float) (n : ℕ) → Permᴰ (falling_of vol n) (up_to n)
unfolding falling_of up_to
falling_perm vol zero = Permᴰ.nil
falling_perm vol (suc n) =
    Permᴰ.trans (insert_perm vol n (falling_of vol n))
    (Permᴰ.trans (Permᴰ.cons refl (falling_perm vol n))
    (Permᴰ.symm (Permᴰ.trans (Permᴰ.middle n (up_to n) []) (Permᴰ.cons refl (Permᴰ.append-nil (up_to n))))))

map_perm : {A B : Type 0} (f : A → B) {l m : List A} → Permᴰ l m → Permᴰ (map f l) (map f m)
map_perm f Permᴰ.nil = Permᴰ.nil
map_perm f (Permᴰ.cons e p) = Permᴰ.cons (ap f e) (map_perm f p)
map_perm f (Permᴰ.swap e h) = Permᴰ.swap (ap f e) (ap f h)
map_perm f (Permᴰ.trans p q) = Permᴰ.trans (map_perm f p) (map_perm f q)

up_length : (n : ℕ) → length (up_to n) ≡ n
unfolding up_to
up_length zero = refl
up_length (suc n) = let h = up_length n in let a = length-append (up_to n) (n ∷ []) in omega arith

up_at : (n i : ℕ) → i < n → get_or (up_to n) i 0 ≡ i
unfolding up_to
up_at zero i l = absurd (not-suc-le-zero l)
up_at (suc n) i l =
    ⊎_elim (λ e. rw e (get_or_at (up_to n) n [] 0 n (up_length n)))
    (λ m. get_or-append (up_to n) (n ∷ []) 0 i (rw (up_length n) m) ∙ up_at n i m)
    (eq-or-lt_of_le (le_of_suc-le-suc l))

-- the boxes at these places are the listing
listing_is : (kinds : List Kind) (n : ℕ) → listing_of kinds n ≡ map (turn_of kinds) (up_to n)
unfolding listing_of up_to
listing_is kinds zero = refl
listing_is kinds (suc n) =
    ap (λ (l : List Instance). l ++ (turn_of kinds n ∷ [])) (listing_is kinds n) ∙ sym (map-append (turn_of kinds) (up_to n) (n ∷ []))

-- the boxes that a run takes are those of the listing
pub falling_boxes_perm : (kinds : List Kind) (n : ℕ) → Permᴰ (falling_boxes kinds n) (listing_of kinds n)
unfolding falling_boxes
falling_boxes_perm kinds n = rw (listing_is kinds n) (map_perm (turn_of kinds) (falling_perm (volume_of kinds) n))

-- ---- in order

-- a test turned round
turned_weak : {A : Type 0} {P : A → Type 0} {r : A → A → Bool} → Weak P r → Weak P (λ a b. r b a)
turned_weak {A} {P} {r} w =
    record {
      asym = λ a b. w.asym b a;
      neg = λ a b c p q s e f. go c b a s q p e f (r c b) refl;
    }
  where
    go : (c b a : A) → P c → P b → P a → r c a ≡ true → r b a ≡ false → (v : Bool) → r c b ≡ v → v ≡ true
    go c b a s q p e f true g = refl
    go c b a s q p e f false g = true_false (sym (w.neg c b a s q p e g) ∙ f)

ltb_weak : {P : ℕ → Type 0} → Weak P ltb
ltb_weak =
    record {
      asym = λ a b e. le-ltb b a (let h = ltb-true a b e in omega arith);
      neg = λ a b c p q s e f. lt-ltb b c (let h = ltb-true a c e in let k = ltb-false a b f in omega arith);
    }

sooner_weak : (vol : ℕ → Float) → Weak (λ t. Number (vol t)) (sooner vol)
sooner_weak vol = lex_weak (turned_weak (on_weak vol (λ a p. p))) ltb_weak

-- the same, list by list
unfoldable Sorted : (ℕ → Float) → List ℕ → Type 0
Sorted vol [] = Unit {0}
Sorted vol (u ∷ l) = ((i : ℕ) → i < length l → sooner vol u (get_or l i 0) ≡ true) × Sorted vol l

-- a box whose volume is not smaller, and that is earlier in the listing, comes first
first_of_lem : (p q s : Bool) → q ≡ false → s ≡ true → (p || (not q && s)) ≡ true
first_of_lem true q s e h = refl
first_of_lem false q s e h = rw (e, h)

insert_sorted : (vol : ℕ → Float) (t : ℕ) (l : List ℕ) → Number (vol t) → ((i : ℕ) → i < length l → (get_or l i 0 < t) × Number (vol (get_or l i 0)))
    → Sorted vol l → Sorted vol (insert vol t l)
unfolding insert Sorted
insert_sorted vol t [] p h s = (λ i k. absurd (not-suc-le-zero k), tt)
insert_sorted vol t (u ∷ l) p h s =
    go (lt (vol u) (vol t)) refl (insert_sorted vol t l p (λ i k. h (suc i) (suc-le-suc k)) s.1)
  where
    w : Weak (λ a. Number (vol a)) (sooner vol)
    w = sooner_weak vol

    go : (b : Bool) → lt (vol u) (vol t) ≡ b → Sorted vol (insert vol t l) → Sorted vol (cond b (t ∷ u ∷ l) (u ∷ insert vol t l))
    go true e r = (all, s)
      where
        front : sooner vol t u ≡ true
        front = rw e

        all : (i : ℕ) → i < suc (length l) → sooner vol t (get_or (u ∷ l) i 0) ≡ true
        all zero k = front
        all (suc i) k =
            w.neg u t (get_or l i 0) (h zero (omega arith)).1 p (h (suc i) k).1 (s.0 i (le_of_suc-le-suc k)) (w.asym t u front)
    go false e r = (
      λ i k.
          insert_all (λ v. sooner vol u v ≡ true) vol t l
          (first_of_lem (lt (vol t) (vol u)) (lt (vol u) (vol t)) (ltb u t) e (lt-ltb u t (h zero (omega arith)).0))
          s.0
          i
          (let q = insert_length vol t l in omega arith),
      r,
    )

falling_sorted : (vol : ℕ → Float) (n : ℕ) → ((t : ℕ) → t < n → Number (vol t)) → Sorted vol (falling_of vol n)
unfolding falling_of Sorted
falling_sorted vol zero h = tt
falling_sorted vol (suc n) h =
    let e = falling_length vol n in
    insert_sorted vol n (falling_of vol n) (h n (omega arith))
    (λ i k. let b : get_or (falling_of vol n) i 0 < n = falling_below vol n i (omega arith) in (b, h (get_or (falling_of vol n) i 0) (omega arith)))
    (falling_sorted vol n (λ t l. h t (omega arith)))

ordered_of : (vol : ℕ → Float) (l : List ℕ) → Sorted vol l → Ordered vol l
unfolding Sorted
ordered_of vol [] s i j h k = absurd (not-suc-le-zero k)
ordered_of vol (u ∷ l) s i zero h k = absurd (not-suc-le-zero h)
ordered_of vol (u ∷ l) s zero (suc j) h k = s.0 j (le_of_suc-le-suc k)
ordered_of vol (u ∷ l) s (suc i) (suc j) h k = ordered_of vol l s.1 i j (le_of_suc-le-suc h) (le_of_suc-le-suc k)

sorted_of : (vol : ℕ → Float) (l : List ℕ) → Ordered vol l → Sorted vol l
unfolding Sorted
sorted_of vol [] o = tt
sorted_of vol (u ∷ l) o =
    (λ i k. o zero (suc i) (omega arith) (suc-le-suc k), sorted_of vol l (λ i j h k. o (suc i) (suc j) (suc-le-suc h) (suc-le-suc k)))

-- by falling volume, equal volumes in listing order, where the volumes are numbers
pub falling_ordered : (vol : ℕ → Float) (n : ℕ) → ((t : ℕ) → t < n → Number (vol t)) → Ordered vol (falling_of vol n)
falling_ordered vol n h = ordered_of vol (falling_of vol n) (falling_sorted vol n h)

-- ---- no other list is so

-- x stands at a place of the list
pub record At (x : ℕ) (l : List ℕ) : Type 0 where
  pub place : ℕ
  pub within : place < length l
  pub is : get_or l place 0 ≡ x

at_front : (x : ℕ) (l : List ℕ) → At x (x ∷ l)
at_front x l = record { place = zero; within = omega arith; is = refl }

at_behind : {x : ℕ} (u : ℕ) {l : List ℕ} → At x l → At x (u ∷ l)
at_behind u a = record { place = suc a.place; within = suc-le-suc a.within; is = a.is }

at_cases : {Q : Type 0} {x u : ℕ} {l : List ℕ} → At x (u ∷ l) → (u ≡ x → Q) → (At x l → Q) → Q
at_cases {Q} {x} {u} {l} a f g = go a.place a.within a.is
  where
    go : (i : ℕ) → i < suc (length l) → get_or (u ∷ l) i 0 ≡ x → Q
    go zero k e = f e
    go (suc i) k e = g (record { place = i; within = le_of_suc-le-suc k; is = e })

perm_at : {l m : List ℕ} → Permᴰ l m → {x : ℕ} → At x l → At x m
perm_at Permᴰ.nil a = a
perm_at (Permᴰ.cons {b = v} {l₂ = m} e p) {x} a =
    at_cases a (λ q. record { place = zero; within = omega arith; is = sym e ∙ q }) (λ r. at_behind v (perm_at p r))
perm_at (Permᴰ.swap {a' = u} {b' = v} {l = l} e h) {x} a =
    at_cases a (λ q. at_behind u (record { place = zero; within = omega arith; is = sym e ∙ q }))
    (λ r. at_cases r (λ q. record { place = zero; within = omega arith; is = sym h ∙ q }) (λ s. at_behind u (at_behind v s)))
perm_at (Permᴰ.trans p q) a = perm_at q (perm_at p a)

-- the first box of a sorted list comes before each other
front_first : (vol : ℕ → Float) (x u : ℕ) (l : List ℕ) → Sorted vol (u ∷ l) → At x l → sooner vol u x ≡ true
unfolding Sorted
front_first vol x u l s a = ap (sooner vol u) (sym a.is) ∙ s.0 a.place a.within

never_both : (vol : ℕ → Float) {Q : Type 0} (a b : ℕ) → sooner vol a b ≡ true → sooner vol b a ≡ true → Q
never_both vol a b e f = true_false (sym f ∙ (sooner_weak vol).asym a b e)

-- two sorted lists of the same boxes are the same
same_sorted : (vol : ℕ → Float) (l m : List ℕ) → Sorted vol l → Sorted vol m → ((x : ℕ) → At x l → At x m) → ((x : ℕ) → At x m → At x l) → l ≡ m
unfolding Sorted
same_sorted vol [] [] s r to back = refl
same_sorted vol [] (v ∷ m) s r to back = absurd (not-suc-le-zero (back v (at_front v m)).within)
same_sorted vol (u ∷ l) [] s r to back = absurd (not-suc-le-zero (to u (at_front u l)).within)
same_sorted vol (u ∷ l) (v ∷ m) s r to back =
    let fronts : u ≡ v =
    at_cases (to u (at_front u l)) (λ e. sym e)
    (λ a. at_cases (back v (at_front v m)) (λ e. e) (λ b. never_both vol u v (front_first vol v u l s b) (front_first vol u v m r a))) in
    let rest : l ≡ m =
    same_sorted vol l m s.1 r.1
    (λ x a. at_cases (to x (at_behind u a)) (λ e. let q : u ≡ x = fronts ∙ e in self u x q (front_first vol x u l s a)) (λ b. b))
    (λ x a. at_cases (back x (at_behind v a)) (λ e. let q : v ≡ x = sym fronts ∙ e in self v x q (front_first vol x v m r a)) (λ b. b)) in
    ap (λ (k : ℕ). k ∷ l) fronts ∙ ap (λ (k : List ℕ). v ∷ k) rest
  where
    self : {Q : Type 0} (a b : ℕ) → a ≡ b → sooner vol a b ≡ true → Q
    self a b e f = never_both vol b b (rw e at f) (rw e at f)

pub only_falling : (vol : ℕ → Float) (n : ℕ) (l : List ℕ) → ((t : ℕ) → t < n → Number (vol t)) → Permᴰ l (up_to n) → Ordered vol l → l ≡ falling_of vol n
only_falling vol n l h p o =
    same_sorted vol l (falling_of vol n) (sorted_of vol l o) (falling_sorted vol n h)
    (λ x a. perm_at (Permᴰ.symm (falling_perm vol n)) (perm_at p a))
    (λ x a. perm_at (Permᴰ.symm p) (perm_at (falling_perm vol n) a))
