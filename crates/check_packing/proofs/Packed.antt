-- The distinct copies in range that are placed, as the unplaced list counts them, are the lines in range that are the first of their copy.
use mathlib.Core.Path.{◌≡◌, refl, sym, ap, ◌∙◌}
use mathlib.Core.Bool.{Bool, true, false, not, ◌&&◌}
use Prim.Native.Nat.{ℕ, zero, suc, ◌+◌, ◌<◌}
use native.Mathlib.Omega.{arith}
use borrow.Author.Tests.{ltb-true, lt-ltb, eqb-true, eq-eqb}
use lib.Dec.{eqb, ltb}
use Rattle.lists.specs.Below.{sum_below}
use Rattle.domain.specs.Refusals.{when}
use Rattle.lists.specs.Bools.{and_left, and_right, same_bool}
use Rattle.sheet.specs.declared.Sheet.{Sheet}
use Rattle.sheet.specs.declared.Line.{Line}
use Rattle.sheet.specs.Sheets.{kind_at, line_at}
use Rattle.sheet.specs.Accepted.{Accepted}
use Rattle.lists.specs.Below.{any_same}
use Rattle.plan_unplaced.specs.Short.{places, is_placed, distinct_placed}
use Rattle.plan_unplaced.specs.Distinct.{distinct_none, distinct_hit, distinct_miss}
use Rattle.check_packing.specs.Lines.{kind_of, is_known, known, kind_for, same_as, again, counted, packs, packed}
use Rattle.check_packing.proofs.ById.{kind_hit, own_kind}

-- a count of lines, one of which is of this kind and in range: a is whether an earlier line names its copy
adds : (d e : ℕ) (a : Bool) → d + when a 1 ≡ e + 1 → d ≡ e + when (not a) 1
adds d e true h = omega arith
adds d e false h = omega arith

and_moved : (a b c : Bool) → (a && (b && c)) ≡ ((a && c) && b)
and_moved true true c = and_true c
  where
    and_true : (c : Bool) → c ≡ (c && true)
    and_true true = refl
    and_true false = refl
and_moved true false true = refl
and_moved true false false = refl
and_moved false b c = refl

module _ (s : Sheet) (a : Accepted s) (k : ℕ) (l : k < s.many.kinds) where
  abbrev id : ℕ
  id = (kind_at s k).id

  abbrev q : ℕ
  q = (kind_at s k).quantity

  -- a line's kind is k exactly where it has k's id
  pub of_kind : (line : Line) → (counted s line && eqb (kind_of s line.id) k) ≡ (eqb line.id id && ltb line.instance q)
  unfolding counted known kind_for
  of_kind line =
      same_bool (counted s line && eqb (kind_of s line.id) k) (eqb line.id id && ltb line.instance q) there back
    where
      there : (counted s line && eqb (kind_of s line.id) k) ≡ true → (eqb line.id id && ltb line.instance q) ≡ true
      there h =
          let c = and_left (counted s line) _ h in
          let e : kind_of s line.id ≡ k = eqb-true (kind_of s line.id) k (and_right (counted s line) _ h) in
          let r = and_right (is_known s line.id) _ c in
          let i = kind_hit s.kinds line.id s.many.kinds (ltb-true (kind_of s line.id) s.many.kinds (and_left (is_known s line.id) _ c)) in
          rw (eq-eqb line.id id (sym (rw e at i)), rw e at r)

      back : (eqb line.id id && ltb line.instance q) ≡ true → (counted s line && eqb (kind_of s line.id) k) ≡ true
      back h =
          let i : line.id ≡ id = eqb-true line.id id (and_left (eqb line.id id) _ h) in
          let e : kind_of s line.id ≡ k = ap (kind_of s) i ∙ own_kind s a k l in
          rw (e, lt-ltb k s.many.kinds l, and_right (eqb line.id id) _ h, eq-eqb k k refl)

  -- an earlier line names line n's copy exactly where that copy is placed
  again_placed : (n : ℕ) → (line_at s n).id ≡ id → is_placed s.lines n id (line_at s n).instance ≡ again s.lines n
  unfolding is_placed again places same_as
  again_placed n e = any_same (places s.lines id (line_at s n).instance) (same_as s.lines n) n (λ j y. rw e)

  -- line n packs a copy of kind k where it is of that kind, in range, and the first of its copy
  packs_is : (n : ℕ) → packs s k n ≡ when ((eqb (line_at s n).id id && ltb (line_at s n).instance q) && not (again s.lines n)) 1
  unfolding packs
  packs_is n =
      ap (λ (b : Bool). when b 1)
      (and_moved (counted s (line_at s n)) (not (again s.lines n)) (eqb (kind_of s (line_at s n).id) k) ∙ ap (λ (b : Bool). b && not (again s.lines n))
      (of_kind (line_at s n)))

  step : (n : ℕ) → distinct_placed s.lines (suc n) id q ≡ distinct_placed s.lines n id q + packs s k n
  step n = rw (packs_is n) (go (eqb (line_at s n).id id && ltb (line_at s n).instance q) refl)
    where
      go : (b : Bool) → (eqb (line_at s n).id id && ltb (line_at s n).instance q) ≡ b
          → distinct_placed s.lines (suc n) id q
          ≡ distinct_placed s.lines n id q + when ((eqb (line_at s n).id id && ltb (line_at s n).instance q) && not (again s.lines n)) 1
      go false h = rw h (let e = distinct_miss s.lines n id q h in omega arith)
      go true h =
          let i = and_left (eqb (line_at s n).id id) _ h in
          let r : (line_at s n).instance < q = ltb-true (line_at s n).instance q (and_right (eqb (line_at s n).id id) _ h) in
          let e = distinct_hit s.lines n id q i r in
          rw h (adds _ _ (again s.lines n) (rw (again_placed n (eqb-true (line_at s n).id id i)) at e))

  pub packed_below : (n : ℕ) → sum_below (packs s k) n ≡ distinct_placed s.lines n id q
  unfolding sum_below
  packed_below zero = sym (distinct_none s.lines id q)
  packed_below (suc n) = rw (packed_below n) (sym (step n))

  -- so a kind is short where fewer distinct instances in range are placed than it has
  pub packed_distinct : packed s k ≡ distinct_placed s.lines s.many.lines id q
  unfolding packed
  packed_distinct = packed_below s.many.lines
