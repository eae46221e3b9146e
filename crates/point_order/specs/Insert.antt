-- How the order is made in a store of places: where the next box goes, and the places behind it moved one on.
use Rattle.std.specs.Prelude.{◌≡◌, refl, Bool, true, false, cond, List, [], ◌∷◌, ◌++◌, ℕ, zero, suc, ◌+◌, ◌-◌, ◌<◌, ◌≤◌, length, get_or, set, take, drop, Float}
use Rattle.std.proofs.Math.Path.{sym, ap}
use Rattle.std.proofs.Common.{◌∙◌, append_assoc, suc-le-suc, le_refl, not-suc-le-zero, le_of_suc-le-suc, add-zero, zero-add, add-one, arith, length-append}
use Rattle.std.proofs.Common.{length-set, length-drop, take-append-drop, length-take-le, take-suc, take-take, take_at, get_or-take, drop_at, drop-drop}
use Rattle.std.proofs.Math.ListN.{get_or-append}
use Rattle.std.proofs.Math.Seq.{slice, slice_empty, slice-cons, append_snoc, length-slice}
use Rattle.std.proofs.lemmas.List.{set_at, drop-take}
use Rattle.std.specs.Float.Ieee.{lt}
use Rattle.std.specs.List.{copy_within}
use Rattle.point_order.specs.Order.{insert, falling_of, sortable, Falls}

-- a store of places, the first n of which are of m boxes
pub record Places (p : List ℕ) (n m : ℕ) : Type 0 where
  pub long : n ≤ length p
  pub place_in : (i : ℕ) → i < n → get_or p i 0 < m

-- the first of these places whose box is of smaller volume than v, or as many as there are
unfoldable pub spot_of : (ℕ → Float) → Float → List ℕ → ℕ
spot_of vol v [] = 0
spot_of vol v (u ∷ l) = cond (lt (vol u) v) 0 (suc (spot_of vol v l))

-- the store with the places from j up to n also one further on
unfoldable pub moved : List ℕ → ℕ → ℕ → List ℕ
moved p j n = take (suc j) p ++ (slice j n p ++ drop (suc n) p)

-- the store with n put at j, before those
unfoldable pub opened : List ℕ → ℕ → ℕ → List ℕ
opened p j n = take j p ++ (n ∷ (slice j n p ++ drop (suc n) p))

-- ---- the scan

pub spot_le : (vol : ℕ → Float) (v : Float) (l : List ℕ) → spot_of vol v l ≤ length l
unfolding spot_of
spot_le vol v [] = le_refl 0
spot_le vol v (u ∷ l) = go (lt (vol u) v) (spot_le vol v l)
  where
    go : (b : Bool) → spot_of vol v l ≤ length l → cond b 0 (suc (spot_of vol v l)) ≤ suc (length l)
    go true h = omega arith
    go false h = omega arith

-- the box at the front is smaller, or it is not
pub spot_here : (vol : ℕ → Float) (v : Float) (u : ℕ) (l : List ℕ) → lt (vol u) v ≡ true → spot_of vol v (u ∷ l) ≡ 0
unfolding spot_of
spot_here vol v u l e = rw e

pub spot_on : (vol : ℕ → Float) (v : Float) (u : ℕ) (l : List ℕ) → lt (vol u) v ≡ false → spot_of vol v (u ∷ l) ≡ suc (spot_of vol v l)
unfolding spot_of
spot_on vol v u l e = rw e

-- the scan over the first n places, at place i: it ends, goes on, or has passed them all
module _ (vol : ℕ → Float) (v : Float) (p : List ℕ) (n : ℕ) where
  abbrev pub Passed : ℕ → Type 0
  Passed i = spot_of vol v (take n p) ≡ i + spot_of vol v (slice i n p)

  pub scan_none : Passed 0
  scan_none = sym (zero-add _)

  pub scan_here : (i : ℕ) → i < n → n ≤ length p → Passed i → lt (vol (get_or p i 0)) v ≡ true → i ≡ spot_of vol v (take n p)
  scan_here i h l e s = sym (e ∙ rw (slice-cons i n p 0 h l, spot_here vol v (get_or p i 0) (slice (suc i) n p) s) (add-zero i))

  pub scan_on : (i : ℕ) → i < n → n ≤ length p → Passed i → lt (vol (get_or p i 0)) v ≡ false → Passed (i + 1)
  scan_on i h l e s = e ∙ rw (slice-cons i n p 0 h l, spot_on vol v (get_or p i 0) (slice (suc i) n p) s, add-one i) (omega arith)

  pub scan_all : Passed n → n ≡ spot_of vol v (take n p)
  unfolding spot_of
  scan_all e = sym (e ∙ rw (slice_empty n p) (add-zero n))

-- the box goes there
pub insert_at : (vol : ℕ → Float) (t : ℕ) (l : List ℕ) → insert vol t l ≡ take (spot_of vol (vol t) l) l ++ (t ∷ drop (spot_of vol (vol t) l) l)
unfolding insert spot_of
insert_at vol t [] = refl
insert_at vol t (u ∷ l) = go (lt (vol u) (vol t)) (insert_at vol t l)
  where
    go : (b : Bool) → insert vol t l ≡ take (spot_of vol (vol t) l) l ++ (t ∷ drop (spot_of vol (vol t) l) l)
        → cond b (t ∷ u ∷ l) (u ∷ insert vol t l)
        ≡ take (cond b 0 (suc (spot_of vol (vol t) l))) (u ∷ l) ++ (t ∷ drop (cond b 0 (suc (spot_of vol (vol t) l))) (u ∷ l))
    go true h = refl
    go false h = ap (λ (k : List ℕ). u ∷ k) h

-- ---- the moves

pub moved_none : (p : List ℕ) (n : ℕ) → moved p n n ≡ p
unfolding moved
moved_none p n = rw (slice_empty n p) (take-append-drop (suc n) p)

pub moved_long : (p : List ℕ) (j n : ℕ) → j ≤ n → n < length p → length (moved p j n) ≡ length p
unfolding moved
moved_long p j n h l =
    let a = length-take-le (suc j) p (omega arith) in
    let b = length-slice j n p (omega arith) in
    let d = length-drop (suc n) p in
    simp length-append (omega arith)

-- one place more is moved
pub moved_more : (p : List ℕ) (j n : ℕ) → j < n → n < length p → set (moved p (suc j) n) (suc j) (get_or (moved p (suc j) n) j 0) ≡ moved p j n
unfolding moved
moved_more p j n h l =
    let front = take (suc j) p in
    let rest = slice (suc j) n p ++ drop (suc n) p in
    let long = length-take-le (suc j) p (omega arith) in
    let e : take (suc (suc j)) p ++ rest ≡ front ++ (get_or p (suc j) 0 ∷ rest) =
    ap (λ (k : List ℕ). k ++ rest) (take-suc p (suc j) 0 (omega arith)) ∙ append_snoc front (get_or p (suc j) 0) rest in
    let g : get_or (front ++ (get_or p (suc j) 0 ∷ rest)) j 0 ≡ get_or p j 0 =
    get_or-append front (get_or p (suc j) 0 ∷ rest) 0 j (omega arith) ∙ get_or-take (suc j) p j 0 (omega arith) in
    rw (e, g)
    (set_at front (get_or p (suc j) 0) rest (get_or p j 0) (suc j) long
    ∙ sym (ap (λ (k : List ℕ). front ++ (k ++ drop (suc n) p)) (slice-cons j n p 0 h (omega arith))))

pub moved_opened : (p : List ℕ) (j n : ℕ) → j ≤ n → n < length p → set (moved p j n) j n ≡ opened p j n
unfolding moved opened
moved_opened p j n h l =
    let rest = slice j n p ++ drop (suc n) p in
    let e : take (suc j) p ++ rest ≡ take j p ++ (get_or p j 0 ∷ rest) =
    ap (λ (k : List ℕ). k ++ rest) (take-suc p j 0 (omega arith)) ∙ append_snoc (take j p) (get_or p j 0) rest in
    rw e (set_at (take j p) (get_or p j 0) rest n j (length-take-le j p (omega arith)))

-- the library's copy of the places from j up to n to one further on
pub copied_moved : (p : List ℕ) (j n : ℕ) → j ≤ n → copy_within p j n (j + 1) ≡ moved p j n
unfolding moved
copied_moved p j n h =
    let e : j + 1 + (n - j) ≡ suc n = omega arith in
    let f : j + (n - j) ≡ n = omega arith in
    let d : take (n - j) (drop j p) ≡ slice j n p = rw f at (sym (drop-take j (n - j) p)) in
    rw (e, d, add-one j) (append_assoc (take (suc j) p) (slice j n p) (drop (suc n) p))

-- the first n places, with n put in
pub opened_first : (p : List ℕ) (j n : ℕ) → j ≤ n → n < length p → take (suc n) (opened p j n) ≡ take j (take n p) ++ (n ∷ drop j (take n p))
unfolding opened
opened_first p j n h l =
    let front = take j p ++ (n ∷ slice j n p) in
    let a = length-take-le j p (omega arith) in
    let b = length-slice j n p (omega arith) in
    let long : length front ≡ suc n = simp length-append (omega arith) in
    rw (← (append_assoc (take j p) (n ∷ slice j n p) (drop (suc n) p)), take-take j n p h) (take_at front (drop (suc n) p) (suc n) long)

-- the places past them stay
pub opened_rest : (p : List ℕ) (j n : ℕ) → j ≤ n → n < length p → drop (suc n) (opened p j n) ≡ drop (suc n) p
unfolding opened
opened_rest p j n h l =
    let front = take j p ++ (n ∷ slice j n p) in
    let a = length-take-le j p (omega arith) in
    let b = length-slice j n p (omega arith) in
    let long : length front ≡ suc n = simp length-append (omega arith) in
    rw (← (append_assoc (take j p) (n ∷ slice j n p) (drop (suc n) p))) (drop_at front (drop (suc n) p) (suc n) long)

pub rest_next : (p q : List ℕ) (n : ℕ) → drop n p ≡ drop n q → drop (suc n) p ≡ drop (suc n) q
rest_next p q n e = sym (one p) ∙ (ap (λ (l : List ℕ). drop 1 l) e ∙ one q)
  where
    one : (l : List ℕ) → drop 1 (drop n l) ≡ drop (suc n) l
    one l = drop-drop 1 n l ∙ ap (λ (k : ℕ). drop k l) (add-one n)

pub opened_long : (p : List ℕ) (j n : ℕ) → j ≤ n → n < length p → length (opened p j n) ≡ length p
opened_long p j n h l = ap length (sym (moved_opened p j n h l)) ∙ (length-set (moved p j n) j n ∙ moved_long p j n h l)

-- ---- the places are those of the boxes put in

pub insert_length : (vol : ℕ → Float) (t : ℕ) (l : List ℕ) → length (insert vol t l) ≡ suc (length l)
unfolding insert
insert_length vol t [] = refl
insert_length vol t (u ∷ l) = go (lt (vol u) (vol t)) (insert_length vol t l)
  where
    go : (b : Bool) → length (insert vol t l) ≡ suc (length l) → length (cond b (t ∷ u ∷ l) (u ∷ insert vol t l)) ≡ suc (suc (length l))
    go true h = refl
    go false h = ap suc h

pub falling_length : (vol : ℕ → Float) (n : ℕ) → length (falling_of vol n) ≡ n
unfolding falling_of
falling_length vol zero = refl
falling_length vol (suc n) = insert_length vol n (falling_of vol n) ∙ ap suc (falling_length vol n)

-- what holds of the next box and of each box that is there holds of each box then
pub insert_all : (P : ℕ → Type 0) (vol : ℕ → Float) (t : ℕ) (l : List ℕ) → P t → ((i : ℕ) → i < length l → P (get_or l i 0))
    → (i : ℕ) → i < suc (length l) → P (get_or (insert vol t l) i 0)
unfolding insert
insert_all P vol t [] p h zero k = p
insert_all P vol t [] p h (suc i) k = absurd (not-suc-le-zero (le_of_suc-le-suc k))
insert_all P vol t (u ∷ l) p h i k = go (lt (vol u) (vol t)) (insert_all P vol t l p (λ j m. h (suc j) (suc-le-suc m))) i k
  where
    go : (b : Bool) → ((j : ℕ) → j < suc (length l) → P (get_or (insert vol t l) j 0))
        → (j : ℕ) → j < suc (suc (length l)) → P (get_or (cond b (t ∷ u ∷ l) (u ∷ insert vol t l)) j 0)
    go true r zero m = p
    go true r (suc j) m = h j (le_of_suc-le-suc m)
    go false r zero m = h zero (omega arith)
    go false r (suc j) m = r j (le_of_suc-le-suc m)

pub falling_below : (vol : ℕ → Float) (n i : ℕ) → i < n → get_or (falling_of vol n) i 0 < n
unfolding falling_of
falling_below vol zero i k = absurd (not-suc-le-zero k)
falling_below vol (suc n) i k =
    let e = falling_length vol n in
    insert_all (λ u. u < suc n) vol n (falling_of vol n) (omega arith)
    (λ j m. let h : get_or (falling_of vol n) j 0 < n = falling_below vol n j (omega arith) in omega arith)
    i
    (omega arith)

-- the order goes by the volumes of these boxes alone
insert_same : (f g : ℕ → Float) (t : ℕ) (l : List ℕ) → f t ≡ g t → ((i : ℕ) → i < length l → f (get_or l i 0) ≡ g (get_or l i 0)) → insert f t l ≡ insert g t l
unfolding insert
insert_same f g t [] e h = refl
insert_same f g t (u ∷ l) e h =
    rw (e, h zero (omega arith), insert_same f g t l e (λ j m. h (suc j) (suc-le-suc m)))

pub falling_same : (f g : ℕ → Float) (n : ℕ) → ((t : ℕ) → t < n → f t ≡ g t) → falling_of f n ≡ falling_of g n
unfolding falling_of
falling_same f g zero h = refl
falling_same f g (suc n) h =
    let e = falling_length f n in
    insert_same f g n (falling_of f n) (h n (omega arith))
    (λ i m. let b : get_or (falling_of f n) i 0 < n = falling_below f n i (omega arith) in h (get_or (falling_of f n) i 0) (omega arith))
    ∙ ap (insert g n) (falling_same f g n (λ t l. h t (omega arith)))

-- ---- a store that has the order

module _ (vol : ℕ → Float) (p : List ℕ) (n : ℕ) (long : n ≤ length p) (e : take n p ≡ falling_of vol n) where
  pub place_is : (i : ℕ) → i < n → get_or p i 0 ≡ get_or (falling_of vol n) i 0
  place_is i l = sym (get_or-take n p i 0 l) ∙ ap (λ (k : List ℕ). get_or k i 0) e

  pub place_below : (i : ℕ) → i < n → get_or p i 0 < n
  place_below i l = rw (place_is i l) (falling_below vol n i l)

  pub places_of : (m : ℕ) → n ≤ m → Places p n m
  places_of m few = record { long = long; place_in = λ i l. let h = place_below i l in omega arith }

  pub spot_few : spot_of vol (vol n) (take n p) ≤ n
  spot_few = let h = spot_le vol (vol n) (take n p) in let k = length-take-le n p long in omega arith

  -- the next box put in
  pub falls : n < length p → take (suc n) (opened p (spot_of vol (vol n) (take n p)) n) ≡ falling_of vol (suc n)
  unfolding falling_of
  falls few = opened_first p (spot_of vol (vol n) (take n p)) n spot_few few ∙ (sym (insert_at vol n (take n p)) ∙ ap (insert vol n) e)

-- a store so sorted keeps its length
pub falls_long : (volumes : List Float) (n : ℕ) (old r : List ℕ) → Falls volumes n old r → length r ≡ length old
falls_long volumes n old r s =
    let m = sortable n volumes old in
    let a : length (take m r) ≡ m = rw s.first (falling_length _ m) in
    let b : length (drop m r) ≡ length old - m = rw s.rest (length-drop m old) in
    sym (ap length (take-append-drop m r)) ∙ (length-append (take m r) (drop m r) ∙ omega arith)
