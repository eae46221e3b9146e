-- Which box each turn of a run is about (packing_utils.rs, `build_instances`): a kind's instances in turn, then the next kind's.
use Rattle.std.specs.Prelude.{◌≡◌, Bool, cond, List}
use Rattle.std.proofs.Math.Path.{refl}
use Rattle.std.proofs.Common.{sym, ◌∙◌, ap, ⊎_elim, le_refl, eq-or-lt_of_le, le_of_suc-le-suc, add-one}
use Rattle.std.proofs.Math.Bool.{true, false}
use Prim.Native.Nat.{ℕ, zero, suc, ◌+◌, ◌<◌, ◌≤◌}
use native.Mathlib.Omega.{arith}
use borrow.Author.Tests.{ltb-true, ltb-false}
use Rattle.std.proofs.Math.Dec.{ltb}
use Rattle.lists.specs.Below.{sum_below}
use Rattle.measures.specs.declared.Kind.{Kind}
use Rattle.sheet.specs.Sheets.{quantity_of}
use Rattle.plan_boxes.specs.declared.Instance.{Instance}

abbrev pub first_turn : Instance
first_turn = record { kind = 0; instance = 0 }

-- the next instance of a kind that has so many, else the first of the next kind
unfoldable pub next_turn : ℕ → Instance → Instance
next_turn quantity u = cond (ltb (u.instance + 1) quantity) (record { kind = u.kind; instance = u.instance + 1 })
    (record { kind = u.kind + 1; instance = 0 })

unfoldable pub turn_of : List Kind → ℕ → Instance
turn_of kinds zero = first_turn
turn_of kinds (suc t) = next_turn (quantity_of kinds (turn_of kinds t).kind) (turn_of kinds t)

-- ---- where a turn layer_state: its place is the boxes of the kinds before it and the instances before it

pub record Right (kinds : List Kind) (m t : ℕ) (u : Instance) : Type 0 where
  pub kind_is : u.kind < m
  pub instance_is : u.instance < quantity_of kinds u.kind
  pub place_is : sum_below (quantity_of kinds) u.kind + u.instance ≡ t

sum_next : (g : ℕ → ℕ) (k : ℕ) → sum_below g (k + 1) ≡ sum_below g k + g k
unfolding sum_below
sum_next g k = rw add-one

sum_mono : (g : ℕ → ℕ) (a b : ℕ) → a ≤ b → sum_below g a ≤ sum_below g b
unfolding sum_below
sum_mono g a zero h = rw (eq_zero h) (le_refl 0)
  where
    eq_zero : a ≤ 0 → a ≡ 0
    eq_zero l = omega arith
sum_mono g a (suc b) h =
    ⊎_elim (λ e. rw e (le_refl _)) (λ l. let r = sum_mono g a b (le_of_suc-le-suc l) in omega arith) (eq-or-lt_of_le h)

module _ (kinds : List Kind) (m : ℕ) (some : (k : ℕ) → k < m → 0 < quantity_of kinds k) where
  first_right : 0 < sum_below (quantity_of kinds) m → Right kinds m 0 first_turn
  unfolding sum_below
  first_right h = let l : 0 < m = has m h in record { kind_is = l; instance_is = some 0 l; place_is = refl }
    where
      has : (n : ℕ) → 0 < sum_below (quantity_of kinds) n → 0 < n
      has zero r = r
      has (suc n) r = omega arith

  -- the first instance of the next kind, after the last of one
  opens : (t : ℕ) (u : Instance) → suc t < sum_below (quantity_of kinds) m → Right kinds m t u → quantity_of kinds u.kind ≤ u.instance + 1
      → Right kinds m (suc t) (record { kind = u.kind + 1; instance = 0 })
  opens t u h r l =
      let e : sum_below (quantity_of kinds) (u.kind + 1) ≡ suc t =
      sum_next (quantity_of kinds) u.kind ∙ (let p = r.place_is in let i = r.instance_is in omega arith) in
      let k : u.kind + 1 < m =
      ⊎_elim (λ d. let x : m ≡ u.kind + 1 = omega arith in absurd (last (ap (sum_below (quantity_of kinds)) x ∙ e))) (λ x. omega arith)
      (eq-or-lt_of_le r.kind_is) in
      record { kind_is = k; instance_is = some (u.kind + 1) k; place_is = omega arith }
    where
      last : sum_below (quantity_of kinds) m ≡ suc t → ⊥
      last e = omega arith

  next_right : (t : ℕ) (u : Instance) → suc t < sum_below (quantity_of kinds) m → Right kinds m t u
      → Right kinds m (suc t) (next_turn (quantity_of kinds u.kind) u)
  unfolding next_turn
  next_right t u h r = go (ltb (u.instance + 1) (quantity_of kinds u.kind)) refl
    where
      go : (b : Bool) → ltb (u.instance + 1) (quantity_of kinds u.kind) ≡ b
          → Right kinds m (suc t) (cond b (record { kind = u.kind; instance = u.instance + 1 }) (record { kind = u.kind + 1; instance = 0 }))
      go true e =
          record {
            kind_is = r.kind_is;
            instance_is = ltb-true (u.instance + 1)
                (quantity_of kinds u.kind) e;
            place_is = let p = r.place_is in omega arith;
          }
      go false e = opens t u h r (ltb-false (u.instance + 1) (quantity_of kinds u.kind) e)

  pub turn_right : (t : ℕ) → t < sum_below (quantity_of kinds) m → Right kinds m t (turn_of kinds t)
  unfolding turn_of
  turn_right zero h = first_right h
  turn_right (suc t) h = next_right t (turn_of kinds t) h (turn_right t (omega arith))

-- one number is below another, or it is not
pub by_order : {P : Type 0} (a b : ℕ) → (a < b → P) → (b ≤ a → P) → P
by_order {P} a b f g = go (ltb a b) refl
  where
    go : (t : Bool) → ltb a b ≡ t → P
    go true e = f (ltb-true a b e)
    go false e = g (ltb-false a b e)

-- two turns with the same place are the same
module _ (kinds : List Kind) where
  apart : (m t : ℕ) (u v : Instance) → Right kinds m t u → Right kinds m t v → u.kind < v.kind → ⊥
  apart m t u v r s h =
      let e = sum_next (quantity_of kinds) u.kind in
      let l = sum_mono (quantity_of kinds) (u.kind + 1) v.kind (omega arith) in
      let p = r.place_is in
      let q = s.place_is in
      let i = r.instance_is in
      omega arith

  pub same_kind : (m t : ℕ) (u v : Instance) → Right kinds m t u → Right kinds m t v → u.kind ≡ v.kind
  same_kind m t u v r s =
      by_order u.kind v.kind (λ h. absurd (apart m t u v r s h))
      (λ h. ⊎_elim (λ e. sym e) (λ l. absurd (apart m t v u s r l)) (eq-or-lt_of_le h))

made : (u : Instance) (k i : ℕ) → u.kind ≡ k → u.instance ≡ i → u ≡ record { kind = k; instance = i }
made u k i a b = rw (← a, ← b)

-- the Rust's two loops: instance i of kind k comes after all boxes of the kinds before it and i of its own
pub turn_at : (kinds : List Kind) (m k i : ℕ) → ((j : ℕ) → j < m → 0 < quantity_of kinds j) → k < m → i < quantity_of kinds k
    → turn_of kinds (sum_below (quantity_of kinds) k + i) ≡ record { kind = k; instance = i }
turn_at kinds m k i some h l =
    let t = sum_below (quantity_of kinds) k + i in
    let v : Instance = record { kind = k; instance = i } in
    let s : Right kinds m t v = record { kind_is = h; instance_is = l; place_is = refl } in
    let n = sum_next (quantity_of kinds) k in
    let g = sum_mono (quantity_of kinds) (k + 1) m (omega arith) in
    let r : Right kinds m t (turn_of kinds t) = turn_right kinds m some t (omega arith) in
    let e : (turn_of kinds t).kind ≡ k = same_kind kinds m t (turn_of kinds t) v r s in
    let p : sum_below (quantity_of kinds) k + (turn_of kinds t).instance ≡ t = rw e at r.place_is in
    let d : (turn_of kinds t).instance ≡ i = omega arith in
    made (turn_of kinds t) k i e d

-- a turn's kind is no further on than the turn
pub turn_early : (kinds : List Kind) (t : ℕ) → (turn_of kinds t).kind ≤ t
unfolding turn_of next_turn
turn_early kinds zero = le_refl 0
turn_early kinds (suc t) = let h = turn_early kinds t in go (ltb ((turn_of kinds t).instance + 1) (quantity_of kinds (turn_of kinds t).kind)) h
  where
    go : (b : Bool) → (turn_of kinds t).kind ≤ t
        → (cond {A = Instance} b (record { kind = (turn_of kinds t).kind; instance = (turn_of kinds t).instance + 1 })
        (record { kind = (turn_of kinds t).kind + 1; instance = 0 })).kind ≤ suc t
    go true h = omega arith
    go false h = omega arith
