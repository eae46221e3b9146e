-- The unplaced list that a plan has: each short kind of an accepted order is listed, and what is listed is a short kind, once.
use Rattle.std.specs.Prelude.{◌≡◌, Bool, ◌||◌, List, eqb, length, get_or, set}
use Rattle.std.proofs.Math.Path.{refl}
use Rattle.std.proofs.Common.{◌∙◌, eq-or-lt_of_le, le_of_suc-le-suc, not-suc-le-zero, add-one, arith, eq-eqb, length-set, get_or-set_other}
use Rattle.std.proofs.Math.Bool.{true, false}
use Rattle.std.proofs.Math.Logic.{⊎_elim}
use Prim.Native.Nat.{ℕ, zero, suc, ◌+◌, ◌<◌, ◌≤◌}
use Rattle.std.proofs.Math.Nat.{le_refl}
use Rattle.std.proofs.lemmas.List.{length-replicate}
use Rattle.std.proofs.Math.Seq.{get_or-set_same}
use Rattle.domain.specs.Bounds.{most_kinds}
use Rattle.lists.specs.Below.{any_below, none_any, any_same}
use Rattle.lists.specs.Table.{table_at}
use Rattle.measures.specs.declared.Kind.{Kind}
use Rattle.sheet.specs.declared.Line.{Line}
use Rattle.sheet.specs.Sheets.{no_kind}
use Rattle.plan_unplaced.specs.declared.Left.{Left}
use Rattle.plan_unplaced.specs.Left.{short_kind, flags_of, push_if, left_after, left_few}
use Rattle.lists.specs.Below.{is_at}

-- a flag for each kind
pub flag_at : (kinds : List Kind) (lines : List Line) (n m k : ℕ) → m ≤ most_kinds → k < m
    → get_or (flags_of kinds lines n m) k false ≡ short_kind kinds lines n k
flag_at kinds lines n m k few l = table_at false most_kinds (short_kind kinds lines n) m k false few l

-- ---- one id more

push_long : (b : Bool) (id : ℕ) (l : Left) → length (push_if b id l).ids ≡ length l.ids
unfolding push_if
push_long true id l = length-set l.ids l.count id
push_long false id l = refl

left_long : (kinds : List Kind) (flags : List Bool) (m : ℕ) → length (left_after kinds flags m).ids ≡ most_kinds
unfolding left_after
left_long kinds flags zero = length-replicate {A = ℕ} most_kinds 0
left_long kinds flags (suc m) = push_long (get_or flags m false) (get_or kinds m no_kind).id (left_after kinds flags m) ∙ left_long kinds flags m

-- a store at c leaves what is listed before it
set_listed : (ids : List ℕ) (c v id n : ℕ) → n ≤ c → any_below (is_at (set ids c v) id) n ≡ any_below (is_at ids id) n
unfolding is_at
set_listed ids c v id n h =
    any_same (is_at (set ids c v) id) (is_at ids id) n (λ j l. rw (get_or-set_other ids c j v 0 (λ e. omega arith)))

or_first : (a b : Bool) → a ≡ true → (a || b) ≡ true
or_first a b e = rw e

or_second : (a b : Bool) → b ≡ true → (a || b) ≡ true
or_second true b e = refl
or_second false b e = e

-- the id that is pushed is listed
push_own : (id : ℕ) (p : Left) → p.count < length p.ids → any_below (is_at (push_if true id p).ids id) (push_if true id p).count ≡ true
unfolding push_if is_at any_below
push_own id p r =
    rw (add-one p.count, get_or-set_same p.ids p.count id 0 r, eq-eqb id id refl)
    (or_second (any_below (is_at (set p.ids p.count id) id) p.count) true refl)

-- and what was listed stays so
push_kept : (b : Bool) (v id : ℕ) (p : Left) → any_below (is_at p.ids id) p.count ≡ true
    → any_below (is_at (push_if b v p).ids id) (push_if b v p).count ≡ true
unfolding push_if any_below
push_kept true v id p h =
    rw (add-one p.count)
    (or_first (any_below (is_at (set p.ids p.count v) id) p.count) _ (set_listed p.ids p.count v id p.count (le_refl p.count) ∙ h))
push_kept false v id p h = h

-- place i of a list: a flagged kind below m, and its id stands at no earlier place
pub record Entry (kinds : List Kind) (flags : List Bool) (m : ℕ) (p : Left) (i : ℕ) : Type 0 where
  pub kind : ℕ
  pub below : kind < m
  pub flagged : get_or flags kind false ≡ true
  pub is : get_or p.ids i 0 ≡ (get_or kinds kind no_kind).id
  pub new : any_below (is_at p.ids (get_or kinds kind no_kind).id) i ≡ false

-- kind m's id is no earlier kind's
abbrev pub Apart : List Kind → ℕ → Type 0
Apart kinds m = (k : ℕ) → k < m → eqb (get_or kinds k no_kind).id (get_or kinds m no_kind).id ≡ false

module _ (kinds : List Kind) (flags : List Bool) where
  abbrev id_of : ℕ → ℕ
  id_of k = (get_or kinds k no_kind).id

  -- each flagged kind is listed
  pub flagged_listed : (m k : ℕ) → m ≤ most_kinds → k < m → get_or flags k false ≡ true
      → any_below (is_at (left_after kinds flags m).ids (id_of k)) (left_after kinds flags m).count ≡ true
  unfolding left_after
  flagged_listed zero k few l f = absurd (not-suc-le-zero l)
  flagged_listed (suc m) k few l f =
      let c = left_few kinds flags m in
      ⊎_elim
      (λ e. rw (e, rw e at f) (push_own (id_of m) (left_after kinds flags m) (rw (left_long kinds flags m) (omega arith))))
      (λ i. push_kept (get_or flags m false) (id_of m) (id_of k) (left_after kinds flags m) (flagged_listed m k (omega arith) i f))
      (eq-or-lt_of_le (le_of_suc-le-suc l))

  -- an old place after a push
  old_entry : (m : ℕ) (p : Left) (i : ℕ) → i < p.count → Entry kinds flags m p i
      → Entry kinds flags (suc m) (record { count = p.count + 1; ids = set p.ids p.count (id_of m) }) i
  old_entry m p i l h =
      record {
        kind = h.kind;
        below = let b = h.below in omega arith;
        flagged = h.flagged;
        is = get_or-set_other p.ids p.count i (id_of m) 0 (λ e. omega arith) ∙ h.is;
        new = set_listed p.ids p.count (id_of m) (id_of h.kind) i (omega arith) ∙ h.new;
      }

  -- and the new one
  new_entry : (m : ℕ) (p : Left) → get_or flags m false ≡ true → Apart kinds m → p.count < length p.ids → ((i : ℕ) → i < p.count → Entry kinds flags m p i)
      → Entry kinds flags (suc m) (record { count = p.count + 1; ids = set p.ids p.count (id_of m) }) p.count
  unfolding is_at
  new_entry m p f apart r h =
      record {
        kind = m;
        below = le_refl (suc m);
        flagged = f;
        is = get_or-set_same p.ids p.count (id_of m) 0 r;
        new =
            set_listed p.ids p.count (id_of m) (id_of m) p.count (le_refl p.count)
            ∙ none_any (is_at p.ids (id_of m)) p.count (λ j l. rw (h j l).is (apart (h j l).kind (h j l).below));
      }

  push_entry : (m : ℕ) (p : Left) (b : Bool) → get_or flags m false ≡ b → Apart kinds m → p.count < length p.ids
      → ((i : ℕ) → i < p.count → Entry kinds flags m p i)
      → (i : ℕ) → i < (push_if b (id_of m) p).count → Entry kinds flags (suc m) (push_if b (id_of m) p) i
  unfolding push_if
  push_entry m p true f apart r h i l =
      ⊎_elim (λ e. rw e (new_entry m p f apart r h)) (λ k. old_entry m p i k (h i k)) (eq-or-lt_of_le (le_of_suc-le-suc (rw (add-one p.count) at l)))
  push_entry m p false f apart r h i l =
      let o = h i l in
      record { kind = o.kind; below = let b = o.below in omega arith; flagged = o.flagged; is = o.is; new = o.new }

  -- each place of the list
  pub entries : (m : ℕ) → m ≤ most_kinds → ((k : ℕ) → k < m → Apart kinds k) → (i : ℕ) → i < (left_after kinds flags m).count
      → Entry kinds flags m (left_after kinds flags m) i
  unfolding left_after
  entries zero few apart i l = absurd (not-suc-le-zero l)
  entries (suc m) few apart i l =
      let c = left_few kinds flags m in
      push_entry m (left_after kinds flags m) (get_or flags m false) refl (apart m (le_refl (suc m))) (rw (left_long kinds flags m) (omega arith))
      (entries m (omega arith) (λ k j. apart k (omega arith))) i l
