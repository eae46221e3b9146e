-- Kinds by id: what is found has the id, and is the first that has it; so in an accepted sheet each kind is found by its own id.
use mathlib.Core.Path.{◌≡◌, refl, sym}
use mathlib.Core.Bool.{Bool, true, false, cond}
use mathlib.Core.Logic.{⊎_elim}
use mathlib.Core.List.{List}
use Prim.Native.Nat.{ℕ, zero, suc, ◌<◌, ◌≤◌}
use native.Mathlib.Nat.{eq-or-lt_of_le, le_of_suc-le-suc, not-suc-le-zero}
use native.Mathlib.Omega.{arith}
use borrow.Author.Tests.{ltb-true, lt-ltb, le-ltb, eqb-true, eq-eqb}
use lib.Dec.{eqb, ltb}
use lib.ListN.{get_or}
use Rattle.lists.specs.Below.{any_none}
use Rattle.measures.specs.declared.Kind.{Kind}
use Rattle.sheet.specs.declared.Sheet.{Sheet}
use Rattle.sheet.specs.Sheets.{no_kind, kind_at, same_id}
use Rattle.sheet.specs.Accepted.{Accepted}
use Rattle.check_packing.specs.Lines.{kind_below, kind_of}

-- the first place, with place k looked at too
abbrev later : ℕ → ℕ → Bool → ℕ
later r k hit = cond (ltb r k) r (cond hit k (suc k))

-- ---- one step

later_le : (r k : ℕ) (hit : Bool) → later r k hit ≤ suc k
later_le r k hit = go (ltb r k) (ltb-true r k) hit
  where
    go : (b : Bool) → (b ≡ true → r < k) → (h : Bool) → cond b r (cond h k (suc k)) ≤ suc k
    go true f h = let l = f refl in omega arith
    go false f true = omega arith
    go false f false = omega arith

module _ (kinds : List Kind) (id : ℕ) where
  pub kind_le : (n : ℕ) → kind_below kinds id n ≤ n
  unfolding kind_below
  kind_le zero = omega arith
  kind_le (suc n) = later_le (kind_below kinds id n) n (eqb (get_or kinds n no_kind).id id)

  -- what is found has the id
  pub kind_hit : (n : ℕ) → kind_below kinds id n < n → (get_or kinds (kind_below kinds id n) no_kind).id ≡ id
  unfolding kind_below
  kind_hit zero l = absurd (not-suc-le-zero l)
  kind_hit (suc n) l =
      go (ltb (kind_below kinds id n) n) (eqb (get_or kinds n no_kind).id id) (λ e. kind_hit n (ltb-true (kind_below kinds id n) n e))
      (eqb-true (get_or kinds n no_kind).id id) l
    where
      go : (b h : Bool) → (b ≡ true → (get_or kinds (kind_below kinds id n) no_kind).id ≡ id) → (h ≡ true → (get_or kinds n no_kind).id ≡ id)
          → cond b (kind_below kinds id n) (cond h n (suc n)) < suc n → (get_or kinds (cond b (kind_below kinds id n) (cond h n (suc n))) no_kind).id ≡ id
      go true h f g l = f refl
      go false true f g l = g refl
      go false false f g l = absurd (omega arith)

  -- none before it has
  kind_none : (n : ℕ) → ((j : ℕ) → j < n → eqb (get_or kinds j no_kind).id id ≡ false) → kind_below kinds id n ≡ n
  unfolding kind_below
  kind_none zero h = refl
  kind_none (suc n) h = rw (kind_none n (λ j l. h j (omega arith)), le-ltb n n (omega arith), h n (omega arith))

  -- the first that has it is found
  pub kind_first : (k n : ℕ) → k < n → (get_or kinds k no_kind).id ≡ id → ((j : ℕ) → j < k → eqb (get_or kinds j no_kind).id id ≡ false)
      → kind_below kinds id n ≡ k
  unfolding kind_below
  kind_first k zero l e h = absurd (not-suc-le-zero l)
  kind_first k (suc n) l e h =
      ⊎_elim (λ q. found (sym q)) (λ q. rw (kind_first k n q e h, lt-ltb k n q)) (eq-or-lt_of_le (le_of_suc-le-suc l))
    where
      found : n ≡ k → kind_below kinds id (suc n) ≡ k
      found q = rw (kind_none n (λ j z. h j (omega arith)), le-ltb n n (omega arith), q, eq-eqb (get_or kinds k no_kind).id id e)

-- ---- in an accepted sheet

pub own_kind : (s : Sheet) → Accepted s → (k : ℕ) → k < s.many.kinds → kind_of s (kind_at s k).id ≡ k
unfolding same_id
own_kind s a k l =
    kind_first s.kinds (kind_at s k).id k s.many.kinds l refl
    (λ j z. any_none (same_id s.kinds k) k j (a.kind_sound k l).id_new z)
