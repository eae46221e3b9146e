-- Rows of words written one after the other into lent cells.
use Rattle.std.specs.Prelude.{◌≡◌, List, ◌++◌, length, drop}
use Rattle.std.proofs.Common.{sym, ◌∙◌, ap, zero-mul, mul-le-mul_right, eq-or-lt_of_le, le_of_suc-le-suc, not-suc-le-zero, arith, length-drop, drop-drop}
use Rattle.std.proofs.Math.Logic.{⊎_elim}
use Prim.Native.Nat.{ℕ, zero, suc, ◌+◌, ◌*◌, ◌<◌, ◌≤◌}
use Rattle.std.proofs.Math.Nat.{suc-mul}
use Rattle.std.proofs.Math.ListN.{get_or, length-append, get_or-append}
use Rattle.std.proofs.lemmas.List.Edits.{sets}
use Rattle.std.proofs.Math.Seq.{sets-eq, take_at, drop-append-add, get_or-append-add}
use Rattle.lists.specs.Below.{all_below}

-- The first n rows, and behind them what the cells held before: cells past the results keep their old values. A row has w words.
unfoldable pub wrote : (ℕ → List ℕ) → ℕ → ℕ → List ℕ → List ℕ
wrote row w n o = all_below row n ++ drop (n * w) o

pub wrote_none : (row : ℕ → List ℕ) (w : ℕ) (o : List ℕ) → wrote row w 0 o ≡ o
unfolding wrote all_below
wrote_none row w o = rw (zero-mul w)

module _ (row : ℕ → List ℕ) (w : ℕ) (long : (i : ℕ) → length (row i) ≡ w) where
  all_length : (n : ℕ) → length (all_below row n) ≡ n * w
  unfolding all_below
  all_length zero = rw (zero-mul w)
  all_length (suc n) =
      let h = all_length n in
      let l = long n in
      let q : suc n * w ≡ n * w + w = suc-mul n w in
      simp length-append (omega arith)

  pub wrote_length : (n : ℕ) (o : List ℕ) → n * w ≤ length o → length (wrote row w n o) ≡ length o
  unfolding wrote
  wrote_length n o h = let e = all_length n in simp (length-append, length-drop) (omega arith)

  -- what stands behind a list of k words, from one row on
  behind : (a o : List ℕ) (k : ℕ) → length a ≡ k → drop (k + w) (a ++ drop k o) ≡ drop (k + w) o
  behind a o k e = (rw e at (drop-append-add a (drop k o) w)) ∙ drop-drop w k o

  -- one row more, stored behind the others
  pub wrote_more : (n : ℕ) (o : List ℕ) → suc n * w ≤ length o → sets (wrote row w n o) (n * w) (row n) ≡ wrote row w (suc n) o
  unfolding wrote all_below
  wrote_more n o h =
      let q : suc n * w ≡ n * w + w = suc-mul n w in
      let l = wrote_length n o (omega arith) in
      let r = long n in
      sets-eq (row n) (wrote row w n o) (n * w) (omega arith)
      ∙ rw (q, r, take_at (all_below row n) (drop (n * w) o) (n * w) (all_length n), behind (all_below row n) o (n * w) (all_length n))

  -- row j's words begin behind the rows before it
  below : (n j i : ℕ) → j < n → i < w → j * w + i < n * w
  below n j i h k =
      let q : suc j * w ≡ j * w + w = suc-mul j w in
      let l : suc j * w ≤ n * w = mul-le-mul_right w h in
      omega arith

  all_at : (n j i : ℕ) → j < n → i < w → get_or (all_below row n) (j * w + i) 0 ≡ get_or (row j) i 0
  unfolding all_below
  all_at zero j i h k = absurd (not-suc-le-zero h)
  all_at (suc n) j i h k =
      ⊎_elim
      (λ e.
      rw e (ap (λ (a : ℕ). get_or (all_below row n ++ row n) (a + i) 0) (sym (all_length n)) ∙ get_or-append-add (all_below row n) (row n) i 0))
      (λ l.
      get_or-append (all_below row n) (row n) 0 (j * w + i) (rw (all_length n) (below n j i l k))
      ∙ all_at n j i l k)
      (eq-or-lt_of_le (le_of_suc-le-suc h))

  -- word i of row j, where it was written
  pub wrote_at : (n : ℕ) (o : List ℕ) (j i : ℕ) → j < n → i < w → get_or (wrote row w n o) (j * w + i) 0 ≡ get_or (row j) i 0
  unfolding wrote
  wrote_at n o j i h k =
      get_or-append (all_below row n) (drop (n * w) o) 0 (j * w + i) (rw (all_length n) (below n j i h k)) ∙ all_at n j i h k
