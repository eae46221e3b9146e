-- Stores of which the first n cells have g 0, g 1, .., and the others what they had before, or a blank.
use Prim.Native.Nat.{ℕ, zero, suc, ◌≤◌, ◌<◌}
use Rattle.std.specs.Prelude.{◌≡◌, List, length, get_or, set, replicate}
use Rattle.std.proofs.Math.Path.{refl}
use Rattle.std.proofs.Common.{sym, ◌∙◌, eq-or-lt_of_le, le_of_suc-le-suc, not-suc-le-zero, le_refl, arith, get_or-set_same, ext_get_or}
use Rattle.std.proofs.Math.Logic.{⊎_elim}
use Rattle.std.proofs.Math.Decide.{dec_lt}
use Rattle.std.proofs.Math.ListN.{length-set}
use Rattle.std.proofs.lemmas.List.{length-replicate, get_or-replicate}
use Rattle.std.proofs.Math.Seq.{get_or-set_other}
use Rattle.lists.specs.Below.{fewer}

-- ---- a lent column, or a store, filled from its first cell on: a turn of a loop stores one cell more

-- g 0, g 1, .. below n in the first cells, the others as they were
unfoldable pub filled : {A : Type 0} → List A → (ℕ → A) → ℕ → List A
filled old g zero = old
filled old g (suc n) = set (filled old g n) n (g n)

module _ {A : Type 0} (old : List A) (g : ℕ → A) where
  pub filled_length : (n : ℕ) → length (filled old g n) ≡ length old
  unfolding filled
  filled_length zero = refl
  filled_length (suc n) = length-set (filled old g n) n (g n) ∙ filled_length n

  -- the cells that were filled
  pub filled_at : (n i : ℕ) (d : A) → n ≤ length old → i < n → get_or (filled old g n) i d ≡ g i
  unfolding filled
  filled_at zero i d m l = absurd (not-suc-le-zero l)
  filled_at (suc n) i d m l =
      ⊎_elim (λ e. rw e (get_or-set_same (filled old g n) n (g n) d (let h = filled_length n in omega arith)))
      (λ b. get_or-set_other (filled old g n) n i (g n) d (omega arith) ∙ filled_at n i d (omega arith) b) (eq-or-lt_of_le (le_of_suc-le-suc l))

  -- the others
  pub filled_past : (n i : ℕ) (d : A) → n ≤ i → get_or (filled old g n) i d ≡ get_or old i d
  unfolding filled
  filled_past zero i d m = refl
  filled_past (suc n) i d m = get_or-set_other (filled old g n) n i (g n) d (omega arith) ∙ filled_past n i d (omega arith)

  -- only the cells below n count
  pub filled_same : (h : ℕ → A) (n : ℕ) → ((i : ℕ) → i < n → g i ≡ h i) → filled old g n ≡ filled old h n
  unfolding filled
  filled_same h zero e = refl
  filled_same h (suc n) e = rw (filled_same h n (fewer n e), e n (le_refl (suc n)))

-- ---- a store that was blank before
abbrev pub table : {A : Type 0} → A → ℕ → (ℕ → A) → ℕ → List A
table blank many g n = filled (replicate many blank) g n

module _ {A : Type 0} (blank : A) (many : ℕ) where
  pub table_length : (g : ℕ → A) (n : ℕ) → length (table blank many g n) ≡ many
  table_length g n = filled_length (replicate many blank) g n ∙ length-replicate many blank

  -- the cells that count
  pub table_at : (g : ℕ → A) (n k : ℕ) (d : A) → n ≤ many → k < n → get_or (table blank many g n) k d ≡ g k
  table_at g n k d m l = filled_at (replicate many blank) g n k d (rw (length-replicate many blank) m) l

  -- the others
  pub table_past : (g : ℕ → A) (n k : ℕ) (d : A) → n ≤ k → k < many → get_or (table blank many g n) k d ≡ blank
  table_past g n k d m l = filled_past (replicate many blank) g n k d m ∙ get_or-replicate many k blank d l

  pub table_same : (g h : ℕ → A) (n : ℕ) → ((k : ℕ) → k < n → g k ≡ h k) → table blank many g n ≡ table blank many h n
  table_same g h n e = filled_same (replicate many blank) g h n e

  -- what holds of a blank and of each entry holds of each cell
  pub table_each : (P : A → Type 0) (g : ℕ → A) (n : ℕ) (d : A) → n ≤ many → P blank → ((k : ℕ) → k < n → P (g k)) → (k : ℕ) → k < many
      → P (get_or (table blank many g n) k d)
  table_each P g n d m b h k l =
      elim (dec_lt k n) [
        | yes c ↦ rw (table_at g n k d m c) (h k c)
        | no c ↦ let p : n ≤ k = omega arith in rw (table_past g n k d p l) b
      ]

  -- a list of the table's length that has its entries and is blank past them is the table
  pub table_is : (d : A) (l : List A) (n : ℕ) → n ≤ many → length l ≡ many → ((k : ℕ) → n ≤ k → k < many → get_or l k d ≡ blank) →
      table blank many (λ k. get_or l k d) n ≡ l
  table_is d l n m h b = ext_get_or d (table blank many (λ k. get_or l k d) n) l (table_length (λ k. get_or l k d) n ∙ sym h) each
    where
      each : (k : ℕ) → k < length (table blank many (λ j. get_or l j d) n) → get_or (table blank many (λ j. get_or l j d) n) k d ≡ get_or l k d
      each k r =
          let i : k < many = rw table_length at r in
          elim (dec_lt k n) [
            | yes c ↦ table_at (λ j. get_or l j d) n k d m c
            | no c ↦ let p : n ≤ k = omega arith in table_past (λ j. get_or l j d) n k d p i ∙ sym (b k p i)
          ]
