-- Where the search for a box's place may begin: no box before the last one put in is of smaller volume than it, so none is of smaller volume than
-- a next box that is no larger.
use Rattle.std.specs.Prelude.{◌≡◌, Bool, not, List, [], ◌∷◌, ◌++◌, ℕ, zero, suc, ◌+◌, ◌-◌, ◌<◌, ◌≤◌, T, eqb, length, get_or, take, Float}
use Rattle.std.proofs.Math.Path.{refl, sym}
use Rattle.std.proofs.Common.{◌∙◌, ap, not-suc-le-zero, le_of_suc-le-suc, eq-or-lt_of_le, add-one, get_or-take}
use Rattle.std.proofs.Math.Bool.{true, false, cond}
use Rattle.std.proofs.Math.Logic.{⊎_elim}
use native.Mathlib.Omega.{arith}
use Rattle.std.proofs.lemmas.Bool.{eqb-false}
use Rattle.std.proofs.Math.ListN.{drop, get_or-append}
use Rattle.std.proofs.Math.Seq.{slice, length-take-le, get_or_at}
use Rattle.std.specs.Float.{nan, inf, fin}
use Rattle.std.specs.Float.Ieee.{lt, le, is_nan}
use Rattle.floats.specs.Order.{lt_not_le, le_number_l}
use Rattle.floats.specs.Weak.{Number, true_false, lt_number_l, lt_number_r, lt_weak}
use Rattle.point_order.specs.Insert.{spot_of, opened, Passed, scan_none, scan_on}

-- none of the first n places is that of a box of smaller volume than v
abbrev pub NoneSmaller : (ℕ → Float) → Float → List ℕ → ℕ → Type 0
NoneSmaller vol v p n = (i : ℕ) → i < n → lt (vol (get_or p i 0)) v ≡ false

-- behind the box before box t, which stands at `last`, where box t is no larger than that; else at the front
unfoldable pub begin_of : (ℕ → Float) → ℕ → ℕ → ℕ
begin_of vol t last = cond (eqb t 0) 0 (cond (le (vol t) (vol (t - 1))) (last + 1) 0)

-- where the box before box t stands, if there is one
pub record Last (vol : ℕ → Float) (p : List ℕ) (t last : ℕ) : Type 0 where
  pub few : last ≤ t
  pub among : 0 < t → last < t
  pub there : 0 < t → get_or p last 0 ≡ t - 1
  pub before : 0 < t → NoneSmaller vol (vol (t - 1)) p last

-- ---- volumes

le_number_r : (x y : Float) → T (le x y) → Number y
unfolding le is_nan
le_number_r nan y h = absurd h
le_number_r (inf s) nan h = absurd h
le_number_r (inf s) (inf t) h = tt
le_number_r (inf s) (fin t n g) h = tt
le_number_r (fin s m e) nan h = absurd h
le_number_r (fin s m e) (inf t) h = tt
le_number_r (fin s m e) (fin t n g) h = tt

-- the larger of two is not less
le_not_lt : (v w : Float) → le v w ≡ true → lt w v ≡ false
le_not_lt v w e = lt_not_le w v (le_number_r v w (rw e tt)) (le_number_l v w (rw e tt)) ∙ ap not e

-- what is not less than the larger is not less than the other
lt_under : (x v w : Float) → le v w ≡ true → lt x w ≡ false → lt x v ≡ false
lt_under x v w e f = go (lt x v) refl
  where
    go : (b : Bool) → lt x v ≡ b → b ≡ false
    go false g = refl
    go true g =
        true_false
        (sym (lt_weak.neg x w v (lt_number_l x v g) (le_number_r v w (rw e tt)) (lt_number_r x v g) g f) ∙ le_not_lt v w e)

-- ---- where the search begins

module _ (vol : ℕ → Float) (p : List ℕ) (t last : ℕ) (b : Last vol p t last) where
  -- no place before is that of a smaller box
  pub begin_none : NoneSmaller vol (vol t) p (begin_of vol t last)
  unfolding begin_of
  begin_none = first (eqb t 0) refl
    where
      past : le (vol t) (vol (t - 1)) ≡ true → 0 < t → NoneSmaller vol (vol t) p (last + 1)
      past e h i l =
          ⊎_elim
          (λ (s : i ≡ last). rw (s, b.there h) (le_not_lt (vol t) (vol (t - 1)) e))
          (λ (s : i < last). lt_under (vol (get_or p i 0)) (vol t) (vol (t - 1)) e (b.before h i s))
          (eq-or-lt_of_le (let m : i ≤ last = omega arith in m))

      second : (v : Bool) → le (vol t) (vol (t - 1)) ≡ v → 0 < t → NoneSmaller vol (vol t) p (cond v (last + 1) 0)
      second true e h = past e h
      second false e h = λ i l. absurd (not-suc-le-zero l)

      first : (v : Bool) → eqb t 0 ≡ v → NoneSmaller vol (vol t) p (cond v 0 (cond (le (vol t) (vol (t - 1))) (last + 1) 0))
      first true e = λ i l. absurd (not-suc-le-zero l)
      first false e = let n = eqb-false t 0 e in second (le (vol t) (vol (t - 1))) refl (omega (arith, n))

  -- and it is among those there are
  pub begin_few : begin_of vol t last ≤ t
  unfolding begin_of
  begin_few = first (eqb t 0) refl
    where
      second : (v : Bool) → 0 < t → cond v (last + 1) 0 ≤ t
      second true h = let l = b.among h in omega (arith, l)
      second false h = omega arith

      first : (v : Bool) → eqb t 0 ≡ v → cond v 0 (cond (le (vol t) (vol (t - 1))) (last + 1) 0) ≤ t
      first true e = omega arith
      first false e = let n = eqb-false t 0 e in second (le (vol t) (vol (t - 1))) (omega (arith, n))

-- before any box
pub last_none : (vol : ℕ → Float) (p : List ℕ) → Last vol p 0 0
last_none vol p =
    record {
      few = omega arith;
      among = λ h. absurd (not-suc-le-zero h);
      there = λ h. absurd (not-suc-le-zero h);
      before = λ h. absurd (not-suc-le-zero h);
    }

-- ---- the search from there

pub scan_from : (vol : ℕ → Float) (v : Float) (p : List ℕ) (n from : ℕ) → from ≤ n → n ≤ length p → NoneSmaller vol v p from → Passed vol v p n from
scan_from vol v p n zero h l e = scan_none vol v p n
scan_from vol v p n (suc i) h l e =
    rw (← (add-one i)) (scan_on vol v p n i (omega arith) l (scan_from vol v p n i (omega arith) l (λ j m. e j (omega arith))) (e i (omega arith)))

-- ---- the box put in

-- before the place found there is no smaller box
pub spot_before : (vol : ℕ → Float) (v : Float) (l : List ℕ) (i : ℕ) → i < spot_of vol v l → lt (vol (get_or l i 0)) v ≡ false
unfolding spot_of
spot_before vol v [] i h = absurd (not-suc-le-zero h)
spot_before vol v (u ∷ l) i h = go (lt (vol u) v) refl (spot_before vol v l) i h
  where
    go : (b : Bool) → lt (vol u) v ≡ b → ((j : ℕ) → j < spot_of vol v l → lt (vol (get_or l j 0)) v ≡ false)
        → (j : ℕ) → j < cond b 0 (suc (spot_of vol v l)) → lt (vol (get_or (u ∷ l) j 0)) v ≡ false
    go true e r j m = absurd (not-suc-le-zero m)
    go false e r zero m = e
    go false e r (suc j) m = r j (le_of_suc-le-suc m)

module _ (vol : ℕ → Float) (p : List ℕ) (n : ℕ) (long : n < length p) (few : spot_of vol (vol n) (take n p) ≤ n) where
  abbrev at : ℕ
  at = spot_of vol (vol n) (take n p)

  abbrev next : List ℕ
  next = opened p at n

  there_is : get_or next at 0 ≡ n
  unfolding opened
  there_is = get_or_at (take at p) n (slice at n p ++ drop (suc n) p) 0 at (length-take-le at p (omega arith))

  before_is : (i : ℕ) → i < at → get_or next i 0 ≡ get_or (take n p) i 0
  unfolding opened
  before_is i l =
      let k = length-take-le at p (omega arith) in
      get_or-append (take at p) (n ∷ (slice at n p ++ drop (suc n) p)) 0 i (omega arith)
      ∙ (get_or-take at p i 0 l ∙ sym (get_or-take n p i 0 (omega arith)))

  -- is the last one
  pub last_next : Last vol next (n + 1) at
  last_next =
      let d : n + 1 - 1 ≡ n = omega arith in
      record {
        few = omega arith;
        among = λ _. omega arith;
        there = λ _. there_is ∙ sym d;
        before = λ _ i l. rw (d, before_is i l) (spot_before vol (vol n) (take n p) i l);
      }
