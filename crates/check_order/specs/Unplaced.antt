-- The findings on unplaced kinds. How many copies of a kind are packed is how many different instances in range some line names, so the order of the
-- lines does not matter.
use Rattle.std.specs.Prelude.{◌≡◌, ◌&&◌, ◌||◌, get_or}
use Rattle.std.proofs.Math.Path.{refl, sym, ap}
use Rattle.std.proofs.Common.{◌∙◌, arith, ltb-true, eqb-true, eq-eqb}
use Rattle.std.proofs.Math.Bool.{Bool, true, false, not, and-true, and_assoc}
use mathlib.Core.List.{List, [], ◌∷◌, ◌++◌, Permᴰ}
use Prim.Native.Nat.{ℕ, zero, suc, ◌+◌, ◌<◌}
use Rattle.std.proofs.Math.Dec.{eqb, ltb}
use Rattle.lists.specs.Below.{any_below, sum_below}
use Rattle.domain.specs.Refusals.{when}
use Rattle.lists.specs.Bools.{and_left, and_right}
use Rattle.measures.specs.declared.Kind.{Kind}
use Rattle.sheet.specs.declared.Line.{Line}
use Rattle.sheet.specs.declared.Sheet.{Sheet}
use Rattle.sheet.specs.Sheets.{no_kind, no_line, kind_at, line_at, unplaced_at}
use Rattle.check_packing.specs.Lines.{kind_of, is_known, known, kind_for, in_range, same_as, again, counted, packs, packed, short}
use Rattle.check_order.specs.Demand.{pick, lines_of, on_unplaced}
use Rattle.check_order.specs.Picked.{each_below, pick_every}
use Rattle.lists.specs.Bools.{same_bool, and_both, and_same}
use Rattle.lists.specs.Below.{sum_same, any_same, all_same}
use Rattle.check_order.specs.Below.{sum_none, sum_both, any_count, count_one}
use Rattle.check_order.specs.Permuted.{sum_first}
use Rattle.check_order.specs.Reordered.{other}
use Rattle.check_order.specs.Parts.{apart, each_missing, each_listed, pick_parts, no_lines, no_pairs, no_mass}
use Rattle.check_order.specs.Kinds.{kind_found, kind_of_same, known_same}
use Rattle.lists.specs.Below.{all_below}
use Rattle.check_words.specs.Words.{only_if}
use Rattle.check_list.specs.Finding.{lost_words, wrong_words}
use Rattle.check_list.specs.View.{lost_found, wrong_found}
use Rattle.check_packing.specs.Findings.{findings, missing, wrongly_listed}
use Rattle.lists.specs.Below.{is_at}

-- ---- what is picked

pub unplaced_picked : (s : Sheet) → pick on_unplaced (findings s) ≡ all_below (missing s) s.many.kinds ++ all_below (wrongly_listed s) s.many.unplaced
unplaced_picked s =
    let p = on_unplaced in
    let d = all_below (missing s) s.many.kinds in
    let e = all_below (wrongly_listed s) s.many.unplaced in
    pick_parts p s
    ∙ rw (
      no_lines p s (λ c i a b r h. apart (1 ∷ 2 ∷ 3 ∷ 4 ∷ 5 ∷ 6 ∷ []) (10 ∷ 11 ∷ []) c refl h),
      no_pairs p s (λ c i j a b h. apart (7 ∷ 8 ∷ []) (10 ∷ 11 ∷ []) c refl h),
      no_mass p s (λ m l. refl),
      pick_every p d (each_below (λ f. p f ≡ true) (missing s) s.many.kinds (λ k l. each_missing (λ f. p f ≡ true) s k (λ id. refl))),
      pick_every p e (each_below (λ f. p f ≡ true) (wrongly_listed s) s.many.unplaced (λ i l. each_listed (λ f. p f ≡ true) s i (λ id. refl))),
    )

-- ---- the copies that are packed

-- the line is of kind k, and of this instance
unfoldable pub is_copy : Sheet → ℕ → ℕ → Line → Bool
is_copy s k instance l = known s l && (eqb (kind_of s l.id) k && eqb l.instance instance)

-- some line is
abbrev pub is_placed : Sheet → ℕ → ℕ → ℕ → Bool
is_placed s k n instance = any_below (λ i. is_copy s k instance (line_at s i)) n

module _ (s : Sheet) (k : ℕ) where
  -- two lines that name one copy, the second of them of kind k
  same_copy : (l m : Line) → known s l ≡ true → eqb (kind_of s l.id) k ≡ true
      → (eqb m.id l.id && eqb m.instance l.instance) ≡ is_copy s k l.instance m
  unfolding is_copy known
  same_copy l m h e =
      ap (λ (v : Bool). v && eqb m.instance l.instance)
      (same_bool (eqb m.id l.id) (known s m && eqb (kind_of s m.id) k) there back)
      ∙ and_assoc (known s m) (eqb (kind_of s m.id) k) (eqb m.instance l.instance)
    where
      there : eqb m.id l.id ≡ true → (is_known s m.id && eqb (kind_of s m.id) k) ≡ true
      there g = ap (λ (v : ℕ). is_known s v && eqb (kind_of s v) k) (eqb-true m.id l.id g) ∙ and_both (is_known s l.id) (eqb (kind_of s l.id) k) h e

      back : (is_known s m.id && eqb (kind_of s m.id) k) ≡ true → eqb m.id l.id ≡ true
      back g =
          eq-eqb m.id l.id
          (sym (kind_found s.kinds m.id s.many.kinds (and_left (is_known s m.id) (eqb (kind_of s m.id) k) g))
          ∙ ap (λ (v : ℕ). (kind_at s v).id)
          (eqb-true (kind_of s m.id) k (and_right (is_known s m.id) (eqb (kind_of s m.id) k) g) ∙ sym (eqb-true (kind_of s l.id) k e))
          ∙ kind_found s.kinds l.id s.many.kinds h)

  again_placed : (n : ℕ) → known s (line_at s n) ≡ true → eqb (kind_of s (line_at s n).id) k ≡ true → again s.lines n ≡ is_placed s k n (line_at s n).instance
  unfolding again same_as
  again_placed n h e = any_same (same_as s.lines n) (λ j. is_copy s k (line_at s n).instance (line_at s j)) n (λ j l. same_copy (line_at s n) (line_at s j) h e)

  -- line n adds the copy that it names where no line before it does
  newly : (n : ℕ) → sum_below (λ m. when (is_copy s k m (line_at s n) && not (is_placed s k n m)) 1) (kind_at s k).quantity ≡ packs s k n
  unfolding is_copy packs counted kind_for
  newly n =
      let l = line_at s n in
      go (known s l) (eqb (kind_of s l.id) k) (again s.lines n) (in_range l (kind_for s l)) (again_placed n)
      (λ h e. ap (λ (v : ℕ). ltb l.instance (kind_at s v).quantity) (eqb-true (kind_of s l.id) k e))
    where
      gone : (r a : Bool) → (r && (not a && false)) ≡ false
      gone true true = refl
      gone true false = refl
      gone false a = refl

      go : (b e a r : Bool) → (b ≡ true → e ≡ true → a ≡ is_placed s k n (line_at s n).instance)
          → (b ≡ true → e ≡ true → r ≡ ltb (line_at s n).instance (kind_at s k).quantity)
          → sum_below (λ m. when ((b && (e && eqb (line_at s n).instance m)) && not (is_placed s k n m)) 1) (kind_at s k).quantity ≡ when
          ((b && r) && (not a && e)) 1
      go true true a r f g =
          count_one (λ m. not (is_placed s k n m)) (line_at s n).instance (kind_at s k).quantity
          ∙ ap (λ (v : Bool). when (v && not (is_placed s k n (line_at s n).instance)) 1) (sym (g refl refl))
          ∙ ap (λ (v : Bool). when (r && not v) 1) (sym (f refl refl))
          ∙ ap (λ (v : Bool). when (r && v) 1) (sym (and-true (not a)))
      go true false a r f g = sum_none (λ m. 0) (kind_at s k).quantity (λ m l. refl) ∙ ap (λ (v : Bool). when v 1) (sym (gone r a))
      go false e a r f g = sum_none (λ m. 0) (kind_at s k).quantity (λ m l. refl)

  one_more : (a b : Bool) → when (a || b) 1 ≡ when a 1 + when (b && not a) 1
  one_more true true = refl
  one_more true false = refl
  one_more false true = refl
  one_more false false = refl

  step : (n : ℕ) → sum_below (packs s k) n ≡ sum_below (λ m. when (is_placed s k n m) 1) (kind_at s k).quantity
      → sum_below (packs s k) n + packs s k n ≡ sum_below (λ m. when (is_placed s k n m || is_copy s k m (line_at s n)) 1) (kind_at s k).quantity
  step n before =
      let q = (kind_at s k).quantity in
      ap (λ (v : ℕ). v + packs s k n) before
      ∙ ap (λ (v : ℕ). sum_below (λ m. when (is_placed s k n m) 1) q + v) (sym (newly n))
      ∙ sym (sum_both (λ m. when (is_placed s k n m) 1) (λ m. when (is_copy s k m (line_at s n) && not (is_placed s k n m)) 1) q)
      ∙ sum_same (λ m. when (is_placed s k n m) 1 + when (is_copy s k m (line_at s n) && not (is_placed s k n m)) 1)
      (λ m. when (is_placed s k n m || is_copy s k m (line_at s n)) 1) q
      (λ m l. sym (one_more (is_placed s k n m) (is_copy s k m (line_at s n))))

  packed_below : (n : ℕ) → sum_below (packs s k) n ≡ sum_below (λ m. when (is_placed s k n m) 1) (kind_at s k).quantity
  unfolding sum_below any_below
  packed_below zero = sym (sum_none (λ m. 0) (kind_at s k).quantity (λ m l. refl))
  packed_below (suc n) = step n (packed_below n)

  -- RULES: Findings: unplaced. The instances of a kind that are in range and placed, each once
  pub packed_distinct : packed s k ≡ sum_below (λ m. when (is_placed s k s.many.lines m) 1) (kind_at s k).quantity
  unfolding packed
  packed_distinct = packed_below s.many.lines

-- ---- two sheets with the same kinds and ids, of which the same kinds are short

module _ (s : Sheet) (ks : List Kind) (ls : List Line) (us : List ℕ)
    (same_kinds : (k : ℕ) → k < s.many.kinds → kind_at s k ≡ get_or ks k no_kind)
    (same_unplaced : (i : ℕ) → i < s.many.unplaced → unplaced_at s i ≡ get_or us i 0)
    (same_short : (k : ℕ) → k < s.many.kinds → short s k ≡ short (other s ks ls us) k) where
  listed_same : (id n : ℕ) → ((i : ℕ) → i < n → i < s.many.unplaced) → any_below (is_at s.unplaced id) n ≡ any_below (is_at us id) n
  unfolding is_at
  listed_same id n h = any_same (is_at s.unplaced id) (is_at us id) n (λ i l. ap (λ (v : ℕ). eqb v id) (same_unplaced i (h i l)))

  -- a kind that is missing in the one is in the other
  pub missing_same : (k : ℕ) → k < s.many.kinds → missing s k ≡ missing (other s ks ls us) k
  unfolding lost_found lost_words
  missing_same k h =
      let t = other s ks ls us in
      let words : Bool → Bool → ℕ → List ℕ = λ a b id. only_if (a && not b) (10 ∷ id ∷ 0 ∷ 0 ∷ 0 ∷ []) in
      let listed : List ℕ → ℕ → Bool = λ ids id. any_below (is_at ids id) s.many.unplaced in
      ap (λ (v : Bool). words v (listed s.unplaced (kind_at s k).id) (kind_at s k).id) (same_short k h)
      ∙ ap (λ (v : Bool). words (short t k) v (kind_at s k).id) (listed_same (kind_at s k).id s.many.unplaced (λ i l. l))
      ∙ ap (λ (v : Kind). words (short t k) (listed us v.id) v.id) (same_kinds k h)

  -- and an id that is wrongly listed
  pub wrong_same : (i : ℕ) → i < s.many.unplaced → wrongly_listed s i ≡ wrongly_listed (other s ks ls us) i
  unfolding wrong_found wrong_words
  wrong_same i h =
      let t = other s ks ls us in
      let id = unplaced_at s i in
      ap (λ (v : Bool). only_if v (11 ∷ id ∷ 0 ∷ 0 ∷ 0 ∷ []))
      (wrong (is_known s id) (is_known t id) (short s (kind_of s id)) (short t (kind_of t id)) (any_below (is_at s.unplaced id) i)
      (ap (λ (v : ℕ). ltb v s.many.kinds) (kind_of_same s ks ls us same_kinds id)) (short_known id))
      ∙ ap (λ (v : Bool). only_if (not (is_known t id) || (not (short t (kind_of t id)) || v)) (11 ∷ id ∷ 0 ∷ 0 ∷ 0 ∷ []))
      (listed_same id i (λ j l. omega arith))
      ∙ ap (λ (v : ℕ). only_if (not (is_known t v) || (not (short t (kind_of t v)) || any_below (is_at us v) i)) (11 ∷ v ∷ 0 ∷ 0 ∷ 0 ∷ [])) (same_unplaced i h)
    where
      short_known : (id : ℕ) → is_known s id ≡ true → short s (kind_of s id) ≡ short (other s ks ls us) (kind_of (other s ks ls us) id)
      short_known id e = same_short (kind_of s id) (ltb-true (kind_of s id) s.many.kinds e) ∙ ap (short (other s ks ls us))
          (kind_of_same s ks ls us same_kinds id)

      wrong : (b c r u v : Bool) → b ≡ c → (b ≡ true → r ≡ u) → (not b || (not r || v)) ≡ (not c || (not u || v))
      wrong true c r u v e f = ap (λ (w : Bool). not w || v) (f refl) ∙ ap (λ (w : Bool). not w || (not u || v)) e
      wrong false c r u v e f = ap (λ (w : Bool). not w || (not u || v)) e

-- ---- the same with the lines in another order

module _ (s : Sheet) (ks : List Kind) (ls : List Line) (us : List ℕ)
    (same_kinds : (k : ℕ) → k < s.many.kinds → kind_at s k ≡ get_or ks k no_kind)
    (same_unplaced : (i : ℕ) → i < s.many.unplaced → unplaced_at s i ≡ get_or us i 0)
    (permuted : Permᴰ (lines_of s) (lines_of (other s ks ls us))) where
  copy_same : (k m : ℕ) (l : Line) → is_copy s k m l ≡ is_copy (other s ks ls us) k m l
  unfolding is_copy
  copy_same k m l =
      let t = other s ks ls us in
      and_same (known s l) (known t l) (eqb (kind_of s l.id) k && eqb l.instance m) (eqb (kind_of t l.id) k && eqb l.instance m)
      (known_same s ks ls us same_kinds l)
      (λ e. ap (λ (v : ℕ). eqb v k && eqb l.instance m) (kind_of_same s ks ls us same_kinds l.id))

  placed_same : (k m : ℕ) → is_placed s k s.many.lines m ≡ is_placed (other s ks ls us) k s.many.lines m
  placed_same k m =
      let t = other s ks ls us in
      let n = s.many.lines in
      any_count (λ i. is_copy s k m (line_at s i)) n
      ∙ ap (ltb 0) (sum_first no_line (λ l. when (is_copy s k m l) 1) n s.lines ls permuted)
      ∙ sym (any_count (λ i. is_copy s k m (line_at t i)) n)
      ∙ any_same (λ i. is_copy s k m (line_at t i)) (λ i. is_copy t k m (line_at t i)) n (λ i l. copy_same k m (line_at t i))

  pub packed_same : (k : ℕ) → k < s.many.kinds → packed s k ≡ packed (other s ks ls us) k
  packed_same k h =
      let t = other s ks ls us in
      packed_distinct s k
      ∙ sum_same (λ m. when (is_placed s k s.many.lines m) 1) (λ m. when (is_placed t k s.many.lines m) 1) (kind_at s k).quantity
      (λ m l. ap (λ (v : Bool). when v 1) (placed_same k m))
      ∙ ap (λ (v : Kind). sum_below (λ m. when (is_placed t k s.many.lines m) 1) v.quantity) (same_kinds k h)
      ∙ sym (packed_distinct t k)

  short_same : (k : ℕ) → k < s.many.kinds → short s k ≡ short (other s ks ls us) k
  unfolding short
  short_same k h = ap (λ (v : ℕ). ltb v (kind_at s k).quantity) (packed_same k h) ∙ ap (λ (v : Kind). ltb (packed (other s ks ls us) k) v.quantity)
      (same_kinds k h)

  -- "the findings on unplaced kinds come out identical"
  pub unplaced_same : pick on_unplaced (findings s) ≡ pick on_unplaced (findings (other s ks ls us))
  unplaced_same =
      let t = other s ks ls us in
      unplaced_picked s
      ∙ ap (λ (v : List ℕ). v ++ all_below (wrongly_listed s) s.many.unplaced) (all_same (missing s) (missing t) s.many.kinds
      (missing_same s ks ls us same_kinds same_unplaced short_same))
      ∙ ap (λ (v : List ℕ). all_below (missing t) s.many.kinds ++ v) (all_same (wrongly_listed s) (wrongly_listed t) s.many.unplaced
      (wrong_same s ks ls us same_kinds same_unplaced short_same))
      ∙ sym (unplaced_picked t)
