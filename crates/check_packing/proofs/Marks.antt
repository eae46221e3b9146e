-- A mark for each box of the order: it stands exactly if a line before names the copy, so the marks tell the repeated lines, and the
-- lines that set one are counted for their kinds.
use mathlib.Core.Path.{◌≡◌, refl, sym, ap, ◌∙◌}
use mathlib.Core.Bool.{Bool, true, false, not, cond, ◌&&◌, ◌||◌, true≢false}
use mathlib.Core.Logic.{⊎_elim}
use mathlib.Core.List.{List}
use Prim.Native.Nat.{ℕ, zero, suc, ◌+◌, ◌<◌, ◌≤◌}
use native.Mathlib.Nat.{eq-or-lt_of_le, le_of_suc-le-suc, add-zero, le_refl}
use native.Mathlib.Decide.{dec_lt}
use native.Mathlib.Omega.{arith}
use borrow.Author.Tests.{ltb-true, lt-ltb, eqb-true, eqb-false, eq-eqb}
use lib.Dec.{eqb, ltb}
use lib.ListN.{length, get_or, set, replicate, length-set, length-replicate, get_or-replicate}
use lib.Seq.{get_or-set_same, get_or-set_other, set_out}
use mir.Val.{bool_byte}
use Rattle.domain.specs.Bounds.{most_kinds, most_boxes, place_within}
use Rattle.domain.specs.Refusals.{when}
use Rattle.lists.specs.Below.{any_below, sum_below, any_same}
use Rattle.lists.specs.Bools.{and_left, and_right, same_bool, or_none, or_some}
use Rattle.sheet.specs.declared.Sheet.{Sheet}
use Rattle.sheet.specs.Sheets.{kind_at, line_at, quantity_of}
use Rattle.sheet.specs.Accepted.{Accepted}
use Rattle.check_packing.specs.Lines.{kind_of, known, kind_for, same_as, again, counted, repeats, packs, packed, short}
use Rattle.check_packing.specs.Columns.{kind_many, kind_first, kind_named, slot_of, short_in}
use Rattle.check_packing.proofs.ById.{kind_hit}
use Rattle.check_packing.proofs.Packed.{of_kind}

-- ---- one cell stored

-- a cell stored as it was
pub set_own : {A : Type 0} (l : List A) (i j : ℕ) (d : A) (v : A) → v ≡ get_or l i d → get_or (set l i v) j d ≡ get_or l j d
set_own l i j d v e =
    elim (dec_lt i (length l)) [
      | yes k ↦ go k (eqb j i) (eqb-true j i) (eqb-false j i)
      | no k ↦ let o : length l ≤ i = omega arith in rw (set_out l i v o)
    ]
  where
    go : i < length l → (b : Bool) → (b ≡ true → j ≡ i) → (b ≡ false → j ≡ i → ⊥) → get_or (set l i v) j d ≡ get_or l j d
    go k true f g = rw (f refl) (get_or-set_same l i v d k ∙ e)
    go k false f g = get_or-set_other l i j v d (g refl)

sum_grows : (g : ℕ → ℕ) (a b : ℕ) → a ≤ b → sum_below g a ≤ sum_below g b
unfolding sum_below
sum_grows g a zero l = let e : a ≡ 0 = omega arith in rw e (le_refl 0)
sum_grows g a (suc b) l =
    ⊎_elim (λ e. rw e (le_refl (sum_below g b + g b))) (λ m. let h = sum_grows g a b (le_of_suc-le-suc m) in omega arith) (eq-or-lt_of_le l)

-- a mark is among them, where there is one
pub slot_in : (n first copy : ℕ) (counts : Bool) → 0 < n → slot_of n first copy counts < n
unfolding slot_of
slot_in n first copy counts h = go (counts && ltb (first + copy) n) refl
  where
    go : (b : Bool) → (counts && ltb (first + copy) n) ≡ b → cond b (first + copy) 0 < n
    go true e = ltb-true (first + copy) n (and_right counts _ e)
    go false e = h

-- 1 where a line counts
pub one_when : (on : Bool) → bool_byte on ≡ when on 1
one_when true = refl
one_when false = refl

pub one_few : (on : Bool) (n : ℕ) → n ≡ bool_byte on → n ≤ 1
one_few true n e = omega arith
one_few false n e = omega arith

-- ---- which boxes are marked

-- line j names copy q of kind k
unfoldable pub names : Sheet → ℕ → ℕ → ℕ → Bool
names s k q j = eqb (line_at s j).id (kind_at s k).id && eqb (line_at s j).instance q

-- before line i
pub record Marked (s : Sheet) (i : ℕ) (seen : List Bool) (packed : List ℕ) : Type 0 where
  pub long : kind_first s s.many.kinds ≤ length seen
  pub many : length packed ≡ most_kinds
  pub marks : (k : ℕ) → k < s.many.kinds → (q : ℕ) → q < kind_many s k → get_or seen (kind_first s k + q) false ≡ any_below (names s k q) i
  pub sums : (k : ℕ) → k < s.many.kinds → get_or packed k 0 ≡ sum_below (packs s k) i
  pub few : (k : ℕ) → k < most_kinds → get_or packed k 0 ≤ i

module _ (s : Sheet) (A : Accepted s) where
  -- the copies of a kind come before those of the next
  before : (k j q : ℕ) → k < j → q < kind_many s k → kind_first s k + q < kind_first s j
  unfolding kind_many kind_first quantity_of sum_below
  before k j q l h = let g = sum_grows (quantity_of s.kinds) (suc k) j l in omega arith

  -- so each copy has a mark of its own
  own_mark : (k j q r : ℕ) → q < kind_many s k → r < kind_many s j → kind_first s k + q ≡ kind_first s j + r → (k ≡ j) × (q ≡ r)
  own_mark k j q r h g e =
      elim (dec_lt k j) [
        | yes l ↦ absurd (let b = before k j q l h in omega arith)
        | no l ↦ elim (dec_lt j k) [
          | yes m ↦ absurd (let b = before j k r m g in omega arith)
          | no m ↦ let d : k ≡ j = omega arith in (d, same d)
        ]
      ]
    where
      same : k ≡ j → q ≡ r
      same d = let f : kind_first s k ≡ kind_first s j = ap (kind_first s) d in omega arith

  -- and marks for all boxes are enough
  in_marks : (k q n : ℕ) → k < s.many.kinds → q < kind_many s k → kind_first s s.many.kinds ≤ n → kind_first s k + q < n
  in_marks k q n l h t = let b = before k s.many.kinds q l h in omega arith

  -- the boxes before a kind and its own are not more than there may be
  pub first_few : (k : ℕ) → k < s.many.kinds → kind_first s k + (kind_at s k).quantity ≤ most_boxes
  unfolding kind_first quantity_of sum_below
  first_few k l = let g = sum_grows (quantity_of s.kinds) (suc k) s.many.kinds l in let t = A.boxes_few in omega arith

  -- before the first line
  pub marked_start : (n : ℕ) → kind_first s s.many.kinds ≤ n → Marked s 0 (replicate n false) (replicate most_kinds 0)
  unfolding any_below sum_below
  marked_start n t =
      record {
        long = rw (length-replicate n false) t;
        many = length-replicate {A = ℕ} most_kinds 0;
        marks = λ k l q h. get_or-replicate n (kind_first s k + q) false false (in_marks k q n l h t);
        sums = λ k l. get_or-replicate {A = ℕ} most_kinds k 0 0 (let f = A.few_of.kinds in omega arith);
        few = λ k l. let e = get_or-replicate {A = ℕ} most_kinds k 0 0 l in omega arith;
      }

  -- a line names copy q of kind k where it counts, is of that kind and has that number
  names_is : (k : ℕ) → k < s.many.kinds → (q : ℕ) → q < kind_many s k → (i : ℕ)
      → names s k q i ≡ (counted s (line_at s i) && (eqb (kind_named s i) k && eqb (line_at s i).instance q))
  unfolding names kind_many kind_named
  names_is k l q h i =
      let line = line_at s i in
      let a = eqb line.id (kind_at s k).id in
      let b = eqb line.instance q in
      let o = of_kind s A k l line in
      same_bool (a && b) (counted s line && (eqb (kind_of s line.id) k && b))
      (λ e.
      let z : line.instance ≡ q = eqb-true line.instance q (and_right a b e) in
      let r : (a && ltb line.instance (kind_at s k).quantity) ≡ true =
      rw (and_left a b e, lt-ltb line.instance (kind_at s k).quantity (omega arith)) in
      let c = o ∙ r in
      rw (and_left (counted s line) _ c, and_right (counted s line) _ c, and_right a b e))
      (λ e.
      let c = and_left (counted s line) _ e in
      let d = and_right (counted s line) _ e in
      let x : (counted s line && eqb (kind_of s line.id) k) ≡ true = rw (c, and_left (eqb (kind_of s line.id) k) b d) in
      rw (and_left a _ (sym o ∙ x), and_right (eqb (kind_of s line.id) k) b d))

  -- a line of a known kind has its id
  own_id : (i : ℕ) → known s (line_at s i) ≡ true → (line_at s i).id ≡ (kind_at s (kind_named s i)).id
  unfolding known kind_named
  own_id i e = sym (kind_hit s.kinds (line_at s i).id s.many.kinds (ltb-true (kind_of s (line_at s i).id) s.many.kinds e))

  -- the mark of its copy tells whether it is named again
  mark_again : (i : ℕ) → known s (line_at s i) ≡ true → any_below (names s (kind_named s i) (line_at s i).instance) i ≡ again s.lines i
  unfolding again names same_as
  mark_again i e =
      any_same (names s (kind_named s i) (line_at s i).instance) (same_as s.lines i) i (λ j l. rw (own_id i e))

  -- ---- one line more
  module _ (i : ℕ) (seen : List Bool) (packed : List ℕ) (M : Marked s i seen packed) where
    abbrev w : ℕ
    w = kind_named s i

    abbrev copy : ℕ
    copy = (line_at s i).instance

    abbrev here : Bool
    here = counted s (line_at s i)

    -- what a line does that counts, and one that does not
    counts_known : here ≡ true → known s (line_at s i) ≡ true
    unfolding counted
    counts_known e = and_left (known s (line_at s i)) _ e

    counts_kind : here ≡ true → w < s.many.kinds
    unfolding counted known kind_named
    counts_kind e = ltb-true (kind_of s (line_at s i).id) s.many.kinds (and_left (known s (line_at s i)) _ e)

    counts_copy : here ≡ true → copy < kind_many s w
    unfolding counted kind_many kind_named kind_for
    counts_copy e = ltb-true copy (kind_at s (kind_of s (line_at s i).id)).quantity (and_right (known s (line_at s i)) _ e)

    was_again : here ≡ true → get_or seen (kind_first s w + copy) false ≡ again s.lines i
    was_again e = M.marks w (counts_kind e) copy (counts_copy e) ∙ mark_again i (counts_known e)

    -- a line that counts sets its mark, and is counted where it is the first
    pub marked_count : here ≡ true → (at k₀ : ℕ) → at ≡ kind_first s w + copy → k₀ ≡ w → (one : ℕ) → one ≡ when (not (get_or seen at false)) 1
        → Marked s (suc i) (set seen at (get_or seen at false || true)) (set packed k₀ (get_or packed k₀ 0 + one))
    unfolding any_below sum_below packs kind_named
    marked_count e at k₀ ea ek one eo =
        let lw = counts_kind e in
        let lc = counts_copy e in
        let f = A.few_of.kinds in
        record {
          long = rw (length-set seen at _) M.long;
          many = length-set packed k₀ _ ∙ M.many;
          marks =
              λ k l q h.
              rw (names_is k l q h i, e)
              (mark k l q h (eqb w k && eqb copy q) refl);
          sums = λ k l. rw (← (M.sums k l), e) (sum k (eqb w k) (eqb-true w k) (eqb-false w k));
          few = λ k l. most k l (eqb k k₀) (eqb-true k k₀) (eqb-false k k₀);
        }
      where
        mark : (k : ℕ) → k < s.many.kinds → (q : ℕ) → q < kind_many s k → (b : Bool) → (eqb w k && eqb copy q) ≡ b
            → get_or (set seen at (get_or seen at false || true)) (kind_first s k + q) false ≡ (any_below (names s k q) i || b)
        mark k l q h true g =
            let x : w ≡ k = eqb-true w k (and_left (eqb w k) _ g) in
            let y : copy ≡ q = eqb-true copy q (and_right (eqb w k) _ g) in
            let z : kind_first s k + q ≡ at = sym (ea ∙ ap (λ (v : ℕ). kind_first s v + copy) x ∙ ap (λ (v : ℕ). kind_first s k + v) y) in
            rw z
            (get_or-set_same seen at (get_or seen at false || true) false (rw ea (in_marks w copy (length seen) (counts_kind e) (counts_copy e) M.long))
            ∙ or_some (get_or seen at false) true refl ∙ sym (or_some (any_below (names s k q) i) true refl))
        mark k l q h false g =
            get_or-set_other seen at (kind_first s k + q) _ false
            (λ z.
            let o = own_mark k w q copy h (counts_copy e) (z ∙ ea) in
            true≢false (sym (rw (eq-eqb w k (sym o.0), eq-eqb copy q (sym o.1))) ∙ g))
            ∙ M.marks k l q h ∙ sym (or_none (any_below (names s k q) i) false refl)

        sum : (k : ℕ) (b : Bool) → (b ≡ true → w ≡ k) → (b ≡ false → w ≡ k → ⊥)
            → get_or (set packed k₀ (get_or packed k₀ 0 + one)) k 0 ≡ get_or packed k 0 + when (not (again s.lines i) && b) 1
        sum k true p q =
            let x : k ≡ k₀ = sym (ek ∙ p refl) in
            rw x
            (get_or-set_same packed k₀ _ 0 (rw M.many (let f = A.few_of.kinds in let lw = counts_kind e in omega arith))
            ∙ rw (eo) (rw ea (rw (was_again e) (and_one (again s.lines i)))))
          where
            and_one : (b : Bool) → get_or packed k₀ 0 + when (not b) 1 ≡ get_or packed k₀ 0 + when (not b && true) 1
            and_one true = refl
            and_one false = refl
        sum k false p q =
            get_or-set_other packed k₀ k _ 0 (λ z. q refl (sym ek ∙ sym z))
            ∙ sym (nothing (again s.lines i))
          where
            nothing : (b : Bool) → get_or packed k 0 + when (not b && false) 1 ≡ get_or packed k 0
            nothing true = add-zero (get_or packed k 0)
            nothing false = add-zero (get_or packed k 0)

        most : (k : ℕ) → k < most_kinds → (b : Bool) → (b ≡ true → k ≡ k₀) → (b ≡ false → k ≡ k₀ → ⊥)
            → get_or (set packed k₀ (get_or packed k₀ 0 + one)) k 0 ≤ suc i
        most k l true p q =
            let v = M.few k₀ (let f = A.few_of.kinds in let lw = counts_kind e in omega arith) in
            let o = at_most_one (not (get_or seen at false)) in
            rw (p refl)
            (rw (get_or-set_same packed k₀ (get_or packed k₀ 0 + one) 0 (rw M.many (let f = A.few_of.kinds in let lw = counts_kind e in omega arith)))
            (omega arith))
          where
            at_most_one : (b : Bool) → when b 1 ≤ 1
            at_most_one true = le_refl 1
            at_most_one false = omega arith
        most k l false p q = let v = M.few k l in rw (get_or-set_other packed k₀ k (get_or packed k₀ 0 + one) 0 (q refl)) (omega arith)

    -- one that does not count changes nothing
    pub marked_none : here ≡ false → (at k₀ : ℕ) → Marked s (suc i) (set seen at (get_or seen at false || false)) (set packed k₀ (get_or packed k₀ 0 + 0))
    unfolding any_below sum_below packs
    marked_none e at k₀ =
        record {
          long = rw (length-set seen at _) M.long;
          many = length-set packed k₀ _ ∙ M.many;
          marks =
              λ k l q h.
              set_own seen at (kind_first s k + q) false _ (or_none (get_or seen at false) false refl) ∙ M.marks k l q h
              ∙ sym (or_none (any_below (names s k q) i) (names s k q i) (rw (names_is k l q h i, e)));
          sums = λ k l. set_own packed k₀ k 0 _ (add-zero (get_or packed k₀ 0)) ∙ M.sums k l ∙ rw e (sym (add-zero (sum_below (packs s k) i)));
          few = λ k l. let v = M.few k l in rw (set_own packed k₀ k 0 (get_or packed k₀ 0 + 0) (add-zero (get_or packed k₀ 0))) (omega arith);
        }

    -- what the columns say of it: whether it counts, and its mark
    pub repeats_is : (at : ℕ) → (here ≡ true → at ≡ kind_first s w + copy) → (here && get_or seen at false) ≡ repeats s i
    repeats_is at ea = go here refl
      where
        go : (b : Bool) → here ≡ b → (b && get_or seen at false) ≡ (b && again s.lines i)
        go true e = rw (ea e) (was_again e)
        go false e = refl

    -- one turn: c is whether the line counts, at its mark, w₁ its place in the columns
    pub turn : (c : Bool) → c ≡ here → (first at w₁ one : ℕ) → (here ≡ true → first ≡ kind_first s w)
        → (copy₁ : ℕ) → copy₁ ≡ copy → at ≡ slot_of (length seen) first copy₁ c
        → w₁ ≡ place_within w
        → one ≡ when (c && not (get_or seen at false)) 1
        → ((c && get_or seen at false) ≡ repeats s i)
        × Marked s (suc i) (set seen at (get_or seen at false || c)) (set packed w₁ (get_or packed w₁ 0 + one))
    unfolding slot_of place_within
    turn c ec first at w₁ one ef copy₁ ey ea ew eo = rw ec (repeats_is at (λ e. own e), go here refl)
      where
        slot_is : here ≡ true → slot_of (length seen) first copy₁ c ≡ kind_first s w + copy
        slot_is e =
            rw (ec ∙ e, ef e, ey) (rw (lt-ltb (kind_first s w + copy) (length seen) (in_marks w copy (length seen) (counts_kind e) (counts_copy e) M.long)))

        own : here ≡ true → at ≡ kind_first s w + copy
        own e = ea ∙ slot_is e

        place_is : here ≡ true → place_within w ≡ w
        place_is e = rw (lt-ltb w most_kinds (let f = A.few_of.kinds in let l = counts_kind e in omega arith))

        one_is : here ≡ true → when (c && not (get_or seen at false)) 1 ≡ when (not (get_or seen at false)) 1
        one_is e = rw (ec ∙ e)

        none_is : here ≡ false → when (c && not (get_or seen at false)) 1 ≡ 0
        none_is e = rw (ec ∙ e)

        go : (b : Bool) → here ≡ b → Marked s (suc i) (set seen at (get_or seen at false || b)) (set packed w₁ (get_or packed w₁ 0 + one))
        go true e = marked_count e at w₁ (own e) (ew ∙ place_is e) one (eo ∙ one_is e)
        go false e = rw (eo ∙ none_is e) (marked_none e at w₁)

  -- where the boxes of a line's kind begin, by the column
  pub first_at : (firsts : List ℕ) (m : ℕ) → m ≡ s.many.kinds → ((k : ℕ) → k < m → get_or firsts k 0 ≡ kind_first s k) → (i w₁ : ℕ)
      → w₁ ≡ place_within (kind_named s i) → counted s (line_at s i) ≡ true → get_or firsts w₁ 0 ≡ kind_first s (kind_named s i)
  unfolding counted known kind_named place_within
  first_at firsts m em h i w₁ ew e =
      let l = ltb-true (kind_of s (line_at s i).id) s.many.kinds (and_left (known s (line_at s i)) _ e) in
      let f = A.few_of.kinds in
      let p : place_within (kind_of s (line_at s i).id) ≡ kind_of s (line_at s i).id = rw (lt-ltb (kind_of s (line_at s i).id) most_kinds (omega arith)) in
      rw (ew ∙ p) (h (kind_of s (line_at s i).id) (rw em l))

  -- after the last line the counts tell which kinds are short
  pub short_is : (n : ℕ) (seen : List Bool) (sums many : List ℕ) → Marked s n seen sums → n ≡ s.many.lines
      → (k : ℕ) → k < s.many.kinds → get_or many k 0 ≡ kind_many s k → short_in sums many k ≡ short s k
  unfolding short_in short packed kind_many
  short_is n seen sums many M en k l h = rw (M.sums k l, h, en)
