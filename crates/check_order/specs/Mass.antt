-- The mass finding. A sum of whole masses is exact, so the order of the lines does not matter to it.
use Rattle.std.specs.Prelude.{◌≡◌, Bool, not, ◌&&◌, eqb, get_or, Float}
use Rattle.std.proofs.Math.Path.{refl, sym, ap}
use Rattle.std.proofs.Common.{◌∙◌, subst, true≢false, add-zero, arith, ltb-true}
use Rattle.std.proofs.Math.Bool.{true, false, cond, or-false}
use Rattle.std.proofs.lemmas.Bool.{false≢true}
use mathlib.Core.List.{List, [], ◌∷◌, append-nil, Permᴰ}
use Prim.Native.Nat.{ℕ, zero, suc, ◌+◌, ◌*◌, ◌<◌, ◌≤◌, zero-le}
use Rattle.std.proofs.Math.Dec.{T}
use Rattle.std.specs.Float.Ieee.{le, of_int}
use Rattle.floats.specs.Ops.{◌⊕◌, none, x, y, z}
use Rattle.floats.specs.Whole.{whole, none_whole, whole_add, whole_le}
use Rattle.domain.specs.Ranges.{most, most_is, negative_zero, is_length, is_measure}
use Rattle.lists.specs.Below.{sum_below}
use Rattle.lists.specs.Bools.{or_right, and_left, and_right, not_true_of}
use Rattle.domain.specs.Bounds.{most_lines}
use Rattle.measures.specs.Asked.{has_mass}
use Rattle.measures.specs.declared.Kind.{Kind}
use Rattle.measures.specs.Faults.{measure_fault}
use Rattle.sheet.specs.declared.Line.{Line}
use Rattle.sheet.specs.declared.Sheet.{Sheet}
use Rattle.sheet.specs.Sheets.{no_kind, no_line, kind_at, line_at}
use Rattle.sheet.specs.Accepted.{Accepted}
use Rattle.check_packing.specs.Lines.{kind_of, known, kind_for, tolerance, mass_of, mass_below, mass}
use Rattle.check_order.specs.Demand.{pick, lines_of, on_mass, WholeMasses}
use Rattle.check_order.specs.Picked.{pick_every}
use Rattle.check_order.specs.Below.{sum_most}
use Rattle.check_order.specs.Permuted.{sum_first}
use Rattle.check_order.specs.Reordered.{other}
use Rattle.check_order.specs.Parts.{apart, each_mass, pick_parts, no_lines, no_pairs, no_missing, no_listed}
use Rattle.check_order.specs.Kinds.{known_same, kind_for_same}
use Rattle.check_list.specs.Finding.{mass_words}
use Rattle.check_list.specs.View.{mass_found}
use Rattle.check_packing.specs.Findings.{findings, mass_finding}

-- ---- what is picked

pub mass_picked : (s : Sheet) → pick on_mass (findings s) ≡ mass_finding s
mass_picked s =
    pick_parts on_mass s
    ∙ rw (
      no_lines on_mass s (λ c i a b d h. sym (or-false (eqb c 9)) ∙ apart (1 ∷ 2 ∷ 3 ∷ 4 ∷ 5 ∷ 6 ∷ []) (9 ∷ []) c refl h),
      no_pairs on_mass s (λ c i j a b h. sym (or-false (eqb c 9)) ∙ apart (7 ∷ 8 ∷ []) (9 ∷ []) c refl h),
      pick_every on_mass (mass_finding s) (each_mass (λ f. on_mass f ≡ true) s (λ m l. refl)),
      no_missing on_mass s (λ id. refl),
      no_listed on_mass s (λ id. refl),
    ) (append-nil (mass_finding s))

-- ---- a sheet whose lines weigh whole numbers, g l for a line l

-- 1,000,000,000, and so many for each line that there can be is below 2 ^ 53
abbrev heaviest : ℕ
heaviest = 1000000000

record Weighs (s : Sheet) (g : Line → ℕ) : Type 0 where
  weight : (l : Line) → known s l ≡ true → mass_of (kind_for s l) ≡ whole (g l)
  no_weight : (l : Line) → known s l ≡ false → g l ≡ 0
  light : (l : Line) → g l ≤ heaviest

mass_sum : (s : Sheet) (g : Line → ℕ) → Weighs s g → (n : ℕ) → n ≤ most_lines → mass_below s n ≡ whole (sum_below (λ i. g (line_at s i)) n)
unfolding mass_below sum_below
mass_sum s g w zero h = none_whole
mass_sum s g w (suc n) h =
    let l = line_at s n in
    step (known s l) (mass_sum s g w n (omega arith)) (sum_most (λ i. g (line_at s i)) n heaviest (λ k m. w.light (line_at s k))) (w.weight l) (w.no_weight l)
  where
    step : (b : Bool) → mass_below s n ≡ whole (sum_below (λ i. g (line_at s i)) n) → sum_below (λ i. g (line_at s i)) n ≤ n * heaviest
        → (b ≡ true → mass_of (kind_for s (line_at s n)) ≡ whole (g (line_at s n))) → (b ≡ false → g (line_at s n) ≡ 0)
        → cond b (mass_below s n ⊕ mass_of (kind_for s (line_at s n))) (mass_below s n) ≡ whole (sum_below (λ i. g (line_at s i)) n + g (line_at s n))
    step true e b f k =
        let before = sum_below (λ i. g (line_at s i)) n in
        let light = w.light (line_at s n) in
        ap (λ (v : Float). v ⊕ mass_of (kind_for s (line_at s n))) e ∙ ap (λ (v : Float). whole before ⊕ v) (f refl) ∙ whole_add before (g (line_at s n))
        (omega arith) (omega arith)
    step false e b f k =
        let before = sum_below (λ i. g (line_at s i)) n in
        e ∙ ap whole (sym (ap (λ (v : ℕ). before + v) (k refl) ∙ add-zero before))

-- ---- whole masses of kinds give such weights

mass_most : (k : Kind) → measure_fault k ≡ false → T (le k.mass most)
mass_most k h =
    let a = is_measure k.mass in
    let m : a ≡ true = not_true_of a
    (or_right (not (is_length (z k.size))) (not a) (or_right (not (is_length (y k.size))) _ (or_right (not (is_length (x k.size))) _ h))) in
    let b = le none k.mass in
    let c = le k.mass most in
    subst T (sym (and_right b c (and_left (b && c) (not (negative_zero k.mass)) m))) tt

most_whole : most ≡ whole heaviest
unfolding of_int
most_whole = most_is

module _ (s : Sheet) (a : Accepted s) (w : WholeMasses s) where
  -- the weight of a line of kind k, where k is one of the sheet's
  weight_at : (k : ℕ) (b : Bool) → (b ≡ true → k < s.many.kinds) → ℕ
  weight_at k true h = cond (has_mass (kind_at s k).massed) (w k (h refl)).0 0
  weight_at k false h = 0

  weight_of : Line → ℕ
  unfolding known
  weight_of l = weight_at (kind_of s l.id) (known s l) (ltb-true (kind_of s l.id) s.many.kinds)

  weight_is : (k : ℕ) (b : Bool) (h : b ≡ true → k < s.many.kinds) → b ≡ true → mass_of (kind_at s k) ≡ whole (weight_at k b h)
  unfolding weight_at
  weight_is k true h e = go (has_mass (kind_at s k).massed)
    where
      go : (c : Bool) → cond c (kind_at s k).mass none ≡ whole (cond c (w k (h refl)).0 0)
      go true = (w k (h refl)).1
      go false = none_whole
  weight_is k false h e = absurd (false≢true e)

  weight_none : (k : ℕ) (b : Bool) (h : b ≡ true → k < s.many.kinds) → b ≡ false → weight_at k b h ≡ 0
  unfolding weight_at
  weight_none k true h e = absurd (true≢false e)
  weight_none k false h e = refl

  weight_light : (k : ℕ) (b : Bool) (h : b ≡ true → k < s.many.kinds) → weight_at k b h ≤ heaviest
  unfolding weight_at
  weight_light k true h = go (has_mass (kind_at s k).massed)
    where
      go : (c : Bool) → cond c (w k (h refl)).0 0 ≤ heaviest
      go true =
          whole_le (w k (h refl)).0 heaviest (omega arith)
          (subst (λ (v : Float). T (le (whole (w k (h refl)).0) v)) most_whole
          (subst (λ (v : Float). T (le v most)) (w k (h refl)).1 (mass_most (kind_at s k) (a.kind_sound k (h refl)).measures_right)))
      go false = zero-le
  weight_light k false h = zero-le

  weights : Weighs s weight_of
  unfolding weight_of known kind_for
  weights =
      record {
        weight = λ l e. weight_is (kind_of s l.id) (known s l) (ltb-true (kind_of s l.id) s.many.kinds) e;
        no_weight = λ l e. weight_none (kind_of s l.id) (known s l) (ltb-true (kind_of s l.id) s.many.kinds) e;
        light = λ l. weight_light (kind_of s l.id) (known s l) (ltb-true (kind_of s l.id) s.many.kinds);
      }

-- ---- the same with the lines in another order

module _ (s : Sheet) (ks : List Kind) (ls : List Line) (us : List ℕ)
    (same_kinds : (k : ℕ) → k < s.many.kinds → kind_at s k ≡ get_or ks k no_kind)
    (permuted : Permᴰ (lines_of s) (lines_of (other s ks ls us)))
    (a : Accepted s) (w : WholeMasses s) where
  other_weights : Weighs (other s ks ls us) (weight_of s a w)
  other_weights =
      let t = other s ks ls us in
      let own = weights s a w in
      let alike : (l : Line) → known s l ≡ known t l = known_same s ks ls us same_kinds in
      record {
        weight = λ l e. ap mass_of (sym (kind_for_same s ks ls us same_kinds l (alike l ∙ e))) ∙ own.weight l (alike l ∙ e);
        no_weight = λ l e. own.no_weight l (alike l ∙ e);
        light = own.light;
      }

  mass_same : mass s ≡ mass (other s ks ls us)
  mass_same =
      let n = s.many.lines in
      let g = weight_of s a w in
      mass_sum s g (weights s a w) n a.few_of.lines ∙ ap whole (sum_first no_line g n s.lines ls permuted) ∙ sym
      (mass_sum (other s ks ls us) g other_weights n a.few_of.lines)

  -- "If all masses are whole numbers, the mass finding is identical too."
  pub mass_finding_same : pick on_mass (findings s) ≡ pick on_mass (findings (other s ks ls us))
  unfolding mass_found
  mass_finding_same = mass_picked s ∙ ap (λ (v : Float). mass_words v s.container.limit (tolerance s)) mass_same ∙ sym (mass_picked (other s ks ls us))
