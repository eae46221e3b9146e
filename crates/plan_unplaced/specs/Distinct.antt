-- What one line more adds to the number of distinct instances placed.
use Rattle.std.specs.Prelude.{◌≡◌, refl, Bool, ◌&&◌, List, ℕ, zero, suc, ◌+◌, ◌<◌, ◌≤◌, ltb}
use Rattle.std.proofs.Common.{sym, ◌∙◌, ⊎_elim, le_refl, eq-or-lt_of_le, le_of_suc-le-suc, arith}
use Rattle.std.proofs.Math.Bool.{true, false}
use borrow.Author.Tests.{ltb-true, ltb-false, ne_eqb, eq-eqb}
use Rattle.std.proofs.Math.Dec.{eqb}
use Rattle.lists.specs.Below.{any_below, sum_below}
use Rattle.domain.specs.Refusals.{when}
use Rattle.lists.specs.Bools.{and_left, and_right}
use Rattle.sheet.specs.declared.Line.{Line}
use Rattle.plan_unplaced.specs.Short.{id_at, instance_at, places, is_placed, one_placed, distinct_placed}
use Rattle.lists.specs.Below.{sum_same, sum_change}
use Rattle.lists.specs.Bools.{or_none, or_some, and_none}

module _ (lines : List Line) (n id : ℕ) where
  -- line n places no instance but its own
  pub placed_other : (i : ℕ) → (i ≡ instance_at lines n → ⊥) → is_placed lines (suc n) id i ≡ is_placed lines n id i
  unfolding is_placed any_below places
  placed_other i d =
      or_none (any_below (places lines id i) n) (places lines id i n)
      (and_none (eqb (id_at lines n) id) (eqb (instance_at lines n) i) (ne_eqb (instance_at lines n) i (λ e. d (sym e))))

  -- and that only where its id is this
  pub placed_stranger : (i : ℕ) → eqb (id_at lines n) id ≡ false → is_placed lines (suc n) id i ≡ is_placed lines n id i
  unfolding is_placed any_below places
  placed_stranger i d = or_none (any_below (places lines id i) n) (places lines id i n) (rw d)

  pub placed_own : eqb (id_at lines n) id ≡ true → is_placed lines (suc n) id (instance_at lines n) ≡ true
  unfolding is_placed any_below places
  placed_own e =
      or_some (any_below (places lines id (instance_at lines n)) n) (places lines id (instance_at lines n) n)
      (rw (e, eq-eqb (instance_at lines n) (instance_at lines n) refl))

  -- a line of another kind, or of an instance out of range, adds none
  pub distinct_miss : (q : ℕ) → (eqb (id_at lines n) id && ltb (instance_at lines n) q) ≡ false
      → distinct_placed lines (suc n) id q ≡ distinct_placed lines n id q
  unfolding distinct_placed one_placed
  distinct_miss q h = sum_same (one_placed lines (suc n) id) (one_placed lines n id) q (λ i l. rw (same i l (eqb (id_at lines n) id) refl))
    where
      same : (i : ℕ) → i < q → (b : Bool) → eqb (id_at lines n) id ≡ b → is_placed lines (suc n) id i ≡ is_placed lines n id i
      same i l false e = placed_stranger i e
      same i l true e = placed_other i (λ d. omega (arith, ltb-false (instance_at lines n) q (rw e at h)))

  -- a line of this kind with an instance in range adds one, unless that instance is placed already
  pub distinct_hit : (q : ℕ) → eqb (id_at lines n) id ≡ true → instance_at lines n < q
      → distinct_placed lines (suc n) id q + when (is_placed lines n id (instance_at lines n)) 1 ≡ distinct_placed lines n id q + 1
  unfolding distinct_placed one_placed
  distinct_hit q e l =
      rw (placed_own e) at
      (sum_change (one_placed lines n id) (one_placed lines (suc n) id) q (instance_at lines n) l (λ i m d. rw (placed_other i d)))

-- with no line, none is placed
pub distinct_none : (lines : List Line) (id q : ℕ) → distinct_placed lines 0 id q ≡ 0
unfolding distinct_placed one_placed is_placed any_below sum_below
distinct_none lines id zero = refl
distinct_none lines id (suc q) = rw (distinct_none lines id q)

-- n lines place at most n
pub distinct_most : (lines : List Line) (n id q : ℕ) → distinct_placed lines n id q ≤ n
distinct_most lines zero id q = let e = distinct_none lines id q in omega arith
distinct_most lines (suc n) id q = go (distinct_most lines n id q) (eqb (id_at lines n) id && ltb (instance_at lines n) q) refl
  where
    go : distinct_placed lines n id q ≤ n → (b : Bool) → (eqb (id_at lines n) id && ltb (instance_at lines n) q) ≡ b
        → distinct_placed lines (suc n) id q ≤ suc n
    go m false h = let e = distinct_miss lines n id q h in omega arith
    go m true h =
        let e =
        distinct_hit lines n id q (and_left (eqb (id_at lines n) id) _ h)
        (ltb-true (instance_at lines n) q (and_right (eqb (id_at lines n) id) _ h)) in
        omega arith

-- one line more places no fewer
distinct_more : (lines : List Line) (n id q : ℕ) → distinct_placed lines n id q ≤ distinct_placed lines (suc n) id q
distinct_more lines n id q = go (eqb (id_at lines n) id && ltb (instance_at lines n) q) refl
  where
    ones : (b : Bool) → when b 1 ≤ 1
    ones true = le_refl 1
    ones false = omega arith

    go : (b : Bool) → (eqb (id_at lines n) id && ltb (instance_at lines n) q) ≡ b
        → distinct_placed lines n id q ≤ distinct_placed lines (suc n) id q
    go false h = let e = distinct_miss lines n id q h in omega arith
    go true h =
        let e =
        distinct_hit lines n id q (and_left (eqb (id_at lines n) id) _ h)
        (ltb-true (instance_at lines n) q (and_right (eqb (id_at lines n) id) _ h)) in
        let o = ones (is_placed lines n id (instance_at lines n)) in
        omega arith

distinct_grows : (lines : List Line) (j n id q : ℕ) → j ≤ n → distinct_placed lines j id q ≤ distinct_placed lines n id q
distinct_grows lines j zero id q h = let e : j ≡ 0 = omega arith in rw e (le_refl _)
distinct_grows lines j (suc n) id q h =
    ⊎_elim (λ e. rw e (le_refl _))
    (λ l. let a = distinct_grows lines j n id q (le_of_suc-le-suc l) in let b = distinct_more lines n id q in omega arith)
    (eq-or-lt_of_le h)

-- there are no more in range than the quantity
distinct_range : (lines : List Line) (n id q : ℕ) → distinct_placed lines n id q ≤ q
unfolding distinct_placed one_placed sum_below
distinct_range lines n id zero = le_refl 0
distinct_range lines n id (suc q) = let h = distinct_range lines n id q in go (is_placed lines n id q) h
  where
    go : (b : Bool) → sum_below (one_placed lines n id) q ≤ q → sum_below (one_placed lines n id) q + when b 1 ≤ suc q
    go true h = omega arith
    go false h = omega arith

-- once all are placed, further lines change nothing
pub distinct_full : (lines : List Line) (j n id q : ℕ) → j ≤ n → q ≤ distinct_placed lines j id q
    → distinct_placed lines j id q ≡ distinct_placed lines n id q
distinct_full lines j n id q h f =
    let g = distinct_grows lines j n id q h in
    let r = distinct_range lines n id q in
    omega arith

-- a count that stopped at the last line, or at the quantity, is the whole count
pub distinct_done : (lines : List Line) (j n id q count : ℕ) → j ≤ n → count ≡ distinct_placed lines j id q → (ltb j n && ltb count q) ≡ false
    → count ≡ distinct_placed lines n id q
distinct_done lines j n id q count h e t = go (ltb j n) refl t
  where
    go : (b : Bool) → ltb j n ≡ b → (b && ltb count q) ≡ false → count ≡ distinct_placed lines n id q
    go true l f = let r = ltb-false count q f in e ∙ distinct_full lines j n id q h (omega arith)
    go false l f = let r = ltb-false j n l in let i : j ≡ n = omega arith in rw i at e
