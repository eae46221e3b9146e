-- A mark for each kind: it stands exactly if an unplaced id before is the kind's, so the marks tell which kinds are listed, and which ids
-- were listed before.
use mathlib.Core.Path.{◌≡◌, refl, sym, ap, ◌∙◌}
use mathlib.Core.Bool.{Bool, true, false, not, ◌&&◌, ◌||◌}
use mathlib.Core.List.{List, [], ◌∷◌}
use Prim.Native.Nat.{ℕ, suc, ◌<◌}
use native.Mathlib.Omega.{arith}
use borrow.Author.Tests.{ltb-true, lt-ltb, eqb-true, eqb-false, eq-eqb}
use lib.Dec.{eqb, ltb}
use lib.ListN.{get_or, set, replicate, length-set, length-replicate, get_or-replicate}
use lib.Seq.{get_or-set_same, get_or-set_other}
use Rattle.domain.specs.Bounds.{most_kinds, place_within}
use Rattle.lists.specs.Below.{any_below, is_at}
use Rattle.lists.specs.Bools.{and_left, and_right, same_bool, or_none}
use Rattle.sheet.specs.declared.Sheet.{Sheet}
use Rattle.sheet.specs.Sheets.{kind_at, unplaced_at}
use Rattle.sheet.specs.Accepted.{Accepted}
use Rattle.check_words.specs.Words.{only_if}
use Rattle.check_list.specs.Finding.{wrong_words}
use Rattle.check_list.specs.View.{wrong_found}
use Rattle.check_packing.specs.Lines.{kind_of, short}
use Rattle.check_packing.specs.Findings.{wrongly_listed}
use Rattle.check_packing.specs.Columns.{Listed, Short}
use Rattle.check_packing.proofs.ById.{kind_hit, own_kind}
use Rattle.check_packing.proofs.Marks.{set_own}

module _ (s : Sheet) (A : Accepted s) where
  -- before the first unplaced id
  pub listed_start : Listed s 0 (replicate most_kinds false)
  unfolding any_below
  listed_start =
      record {
        long = length-replicate most_kinds false;
        marks = λ k l. get_or-replicate most_kinds k false false (let f = A.few_of.kinds in omega arith);
      }

  -- an unplaced id is kind k's exactly where k is the kind found by it
  listed_is : (i k : ℕ) → k < s.many.kinds
      → is_at s.unplaced (kind_at s k).id i ≡ (ltb (kind_of s (unplaced_at s i)) s.many.kinds && eqb (kind_of s (unplaced_at s i)) k)
  unfolding is_at
  listed_is i k l =
      let w = kind_of s (unplaced_at s i) in
      same_bool (eqb (unplaced_at s i) (kind_at s k).id) (ltb w s.many.kinds && eqb w k)
      (λ e.
      let f : w ≡ k = ap (kind_of s) (eqb-true (unplaced_at s i) (kind_at s k).id e) ∙ own_kind s A k l in
      rw (f, lt-ltb k s.many.kinds l, eq-eqb k k refl))
      (λ e.
      let f : w ≡ k = eqb-true w k (and_right (ltb w s.many.kinds) _ e) in
      let h = kind_hit s.kinds (unplaced_at s i) s.many.kinds (ltb-true w s.many.kinds (and_left (ltb w s.many.kinds) _ e)) in
      eq-eqb (unplaced_at s i) (kind_at s k).id (sym (rw f at h)))

  module _ (i : ℕ) (listed : List Bool) (L : Listed s i listed) (w k₀ : ℕ) (ew : w ≡ kind_of s (unplaced_at s i)) (ek : k₀ ≡ place_within w) where
    abbrev found : Bool
    found = ltb w s.many.kinds

    within : found ≡ true → k₀ ≡ w
    unfolding place_within
    within e =
        let l = ltb-true w s.many.kinds e in
        let f = A.few_of.kinds in
        ek ∙ rw (lt-ltb w most_kinds (omega arith))

    -- one unplaced id more
    pub listed_more : Listed s (suc i) (set listed k₀ (get_or listed k₀ false || found))
    unfolding any_below
    listed_more =
        record {
          long = length-set listed k₀ _ ∙ L.long;
          marks = λ k l. rw (listed_is i k l, ← ew, ← (L.marks k l)) (go found refl k l (eqb w k) (eqb-true w k) (eqb-false w k));
        }
      where
        go : (b : Bool) → found ≡ b → (k : ℕ) → k < s.many.kinds → (h : Bool) → (h ≡ true → w ≡ k) → (h ≡ false → w ≡ k → ⊥)
            → get_or (set listed k₀ (get_or listed k₀ false || b)) k false ≡ (get_or listed k false || (b && h))
        go true e k l true p q =
            let f = A.few_of.kinds in
            let z : k ≡ k₀ = sym (within e ∙ p refl) in
            rw z (get_or-set_same listed k₀ _ false (let n = L.long in omega arith) ∙ refl)
        go true e k l false p q =
            get_or-set_other listed k₀ k _ false (λ z. q refl (sym (within e) ∙ sym z)) ∙ sym (or_none (get_or listed k false) false refl)
        go false e k l h p q =
            set_own listed k₀ k false _ (or_none (get_or listed k₀ false) false refl) ∙ sym (or_none (get_or listed k false) false refl)

    -- the mark tells whether it was listed before, where its kind is known
    before_is : found ≡ true → get_or listed k₀ false ≡ any_below (is_at s.unplaced (unplaced_at s i)) i
    before_is e =
        let l = ltb-true w s.many.kinds e in
        let h = kind_hit s.kinds (unplaced_at s i) s.many.kinds (rw ew at l) in
        rw (within e) (L.marks w l ∙ ap (λ (id : ℕ). any_below (is_at s.unplaced id) i) (rw (← ew) at h))

    -- what it gets, by the columns
    pub wrong_is : (shorts : List Bool) → Short s s.many.kinds shorts
        → only_if (not found || (not (get_or shorts k₀ false) || get_or listed k₀ false)) (11 ∷ unplaced_at s i ∷ 0 ∷ 0 ∷ 0 ∷ []) ≡ wrongly_listed s i
    unfolding wrong_found wrong_words
    wrong_is shorts S = rw (← ew) (go found refl)
      where
        go : (b : Bool) → found ≡ b
            → only_if (not b || (not (get_or shorts k₀ false) || get_or listed k₀ false)) (11 ∷ unplaced_at s i ∷ 0 ∷ 0 ∷ 0 ∷ [])
            ≡ only_if (not b || (not (short s w) || any_below (is_at s.unplaced (unplaced_at s i)) i)) (11 ∷ unplaced_at s i ∷ 0 ∷ 0 ∷ 0 ∷ [])
        go true e = rw (before_is e) (rw (within e) (rw (S w (ltb-true w s.many.kinds e))))
        go false e = refl
