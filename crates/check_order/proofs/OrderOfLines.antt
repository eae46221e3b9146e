-- Demand 3: the order of a sheet's lines does not matter to its findings, nor to what a call writes.
use Rattle.std.specs.Prelude.{◌≡◌, ◌⊎◌, ℕ, ◌<◌, get_or}
use Rattle.std.proofs.Common.{sym, ap, ◌∙◌, subst, inl, inr, arith}
use mathlib.Core.List.{List, Permᴰ}
use Rattle.measures.specs.declared.Kind.{Kind}
use Rattle.sheet.specs.declared.Counts.{Counts}
use Rattle.sheet.specs.declared.Line.{Line}
use Rattle.sheet.specs.declared.Sheet.{Sheet}
use Rattle.sheet.specs.Sheets.{no_kind, no_line, kind_at, line_at, unplaced_at, sheet_refusal}
use Rattle.sheet.specs.Accepted.{Accepted, accepted}
use Rattle.domain.specs.Numbers.{number_in}
use Rattle.check_packing.specs.Check.{check_refusal, checked_of}
use Rattle.check_order.specs.Demand.{lines_of, Reordered, Renumbered, pick, change, own_of, pair_of, line_aside, lines_aside, SameFindings, written}
use Rattle.check_order.specs.Below.{three_ways}
use Rattle.check_order.specs.Reordered.{other, as_other, renumbered}
use Rattle.check_order.specs.Kinds.{own_same, pair_same}
use Rattle.check_order.specs.Own.{own_aside}
use Rattle.check_order.proofs.Own.{own_picked}
use Rattle.check_order.proofs.Pairs.{pair_found_lem, no_pair}
use Rattle.check_order.specs.Repeats.{repeated_same}
use Rattle.check_order.specs.Unplaced.{unplaced_same}
use Rattle.check_order.specs.Mass.{mass_finding_same}
use Rattle.check_packing.specs.Findings.{findings}
use Rattle.check_order.specs.ByLine.{own_findings, pair_words}
use Rattle.check_order.specs.OrderOfLines.{written_findings, number_answered, taken, written_taken}

-- ---- the second sheet as the first with other lists

module _ (s : Sheet) (ks : List Kind) (ls : List Line) (us : List ℕ)
    (same_kinds : (k : ℕ) → k < s.many.kinds → kind_at s k ≡ get_or ks k no_kind)
    (same_unplaced : (i : ℕ) → i < s.many.unplaced → unplaced_at s i ≡ get_or us i 0)
    (permuted : Permᴰ (lines_of s) (lines_of (other s ks ls us)))
    (a : Accepted s) (b : Accepted (other s ks ls us))
    (to : ℕ → ℕ) (to_below : (i : ℕ) → i < s.many.lines → to i < s.many.lines)
    (to_apart : (i j : ℕ) → i < s.many.lines → j < s.many.lines → to i ≡ to j → i ≡ j)
    (same_line : (i : ℕ) → i < s.many.lines → get_or ls (to i) no_line ≡ line_at s i) where
  own_again : (i : ℕ) → i < s.many.lines
      → change line_aside (pick (own_of i) (findings s)) ≡ change line_aside (pick (own_of (to i)) (findings (other s ks ls us)))
  own_again i h =
      let t = other s ks ls us in
      ap (change line_aside) (own_picked s i h)
      ∙ own_aside s i (line_at s i)
      ∙ own_same s ks ls us same_kinds 0 (line_at s i)
      ∙ ap (own_findings t 0) (sym (same_line i h))
      ∙ sym (ap (change line_aside) (own_picked t (to i) (to_below i h)) ∙ own_aside t (to i) (line_at t (to i)))

  pair_again : (i j : ℕ) → i < s.many.lines → j < s.many.lines → (i ≡ j → ⊥)
      → change lines_aside (pick (pair_of i j) (findings s)) ≡ change lines_aside (pick (pair_of (to i) (to j)) (findings (other s ks ls us)))
  pair_again i j h k ne =
      let t = other s ks ls us in
      pair_found_lem s a i j h k ne
      ∙ pair_same s ks ls us same_kinds 0 (line_at s i) 0 (line_at s j)
      ∙ ap (λ (v : Line). pair_words t 0 v 0 (line_at s j)) (sym (same_line i h))
      ∙ ap (λ (v : Line). pair_words t 0 (line_at t (to i)) 0 v) (sym (same_line j k))
      ∙ sym (pair_found_lem t b (to i) (to j) (to_below i h) (to_below j k) (λ e. ne (to_apart i j h k e)))

  any_pair_again : (i j : ℕ) → i < s.many.lines → j < s.many.lines
      → change lines_aside (pick (pair_of i j) (findings s)) ≡ change lines_aside (pick (pair_of (to i) (to j)) (findings (other s ks ls us)))
  any_pair_again i j h k = go (three_ways i j)
    where
      go : (i < j) ⊎ ((i ≡ j) ⊎ (j < i))
          → change lines_aside (pick (pair_of i j) (findings s)) ≡ change lines_aside (pick (pair_of (to i) (to j)) (findings (other s ks ls us)))
      go (inl l) = pair_again i j h k (λ e. omega arith)
      go (inr (inl e)) =
          let t = other s ks ls us in
          ap (λ (v : ℕ). change lines_aside (pick (pair_of i v) (findings s))) (sym e)
          ∙ ap (change lines_aside) (no_pair s i ∙ sym (no_pair t (to i)))
          ∙ ap (λ (v : ℕ). change lines_aside (pick (pair_of (to i) (to v)) (findings t))) e
      go (inr (inr l)) = pair_again i j h k (λ e. omega arith)

  same_findings : SameFindings s to (findings s) (findings (other s ks ls us))
  same_findings =
      record {
        own = own_again;
        pair = any_pair_again;
        repeated = repeated_same s ks ls us same_kinds permuted;
        unplaced = unplaced_same s ks ls us same_kinds same_unplaced permuted;
        mass = λ w. mass_finding_same s ks ls us same_kinds permuted a w;
      }

-- ---- Demand 3 over demand 2's meaning, for whatever line numbers carry the one sheet's lines to the other's. `renumbered` gives such numbers.
pub order_of_lines : (s t : Sheet) → Reordered s t → (p : Renumbered s t) → SameFindings s p.to (findings s) (findings t)
order_of_lines s t r p =
    let e = as_other s t r.same_container r.same_counts in
    subst (λ (u : Sheet). SameFindings s p.to (findings s) (findings u)) e
    (same_findings s t.kinds t.lines t.unplaced r.same_kinds r.same_unplaced
    (subst (λ (u : Sheet). Permᴰ (lines_of s) (lines_of u)) (sym e) r.lines_permuted)
    (accepted s r.accepted_first)
    (accepted (other s t.kinds t.lines t.unplaced) (ap sheet_refusal e ∙ r.accepted_second))
    p.to
    (λ i h. subst (λ (m : Counts). p.to i < m.lines) (sym r.same_counts) (p.to_below i h))
    (λ i j h k c. sym (p.back_to i h) ∙ ap p.back c ∙ p.back_to j k)
    p.same_line)

pub order_of_lines_permuted : (s t : Sheet) (r : Reordered s t) → SameFindings s (renumbered s t r).to (findings s) (findings t)
order_of_lines_permuted s t r = order_of_lines s t r (renumbered s t r)

-- Demand 3 over the call: whatever two calls write that are not refused, and so had room lent for all findings, stands in that relation.
pub order_of_lines_written : (s t : Sheet) (o q : List ℕ) → Reordered s t → (p : Renumbered s t)
    → number_in (checked_of s o) ≡ 0 → number_in (checked_of t q) ≡ 0
    → SameFindings s p.to (written s o) (written t q)
order_of_lines_written s t o q r p h k =
    subst (λ (v : List ℕ). SameFindings s p.to v (written t q)) (sym (written_findings s o h))
    (subst (λ (v : List ℕ). SameFindings s p.to (findings s) v) (sym (written_findings t q k)) (order_of_lines s t r p))

-- The same by what the two sheets and their cells are refused by, and by how many findings there are.
pub order_of_lines_taken : (s t : Sheet) (o q : List ℕ) → Reordered s t → (p : Renumbered s t) → check_refusal s o ≡ 0 → check_refusal t q ≡ 0
    → SameFindings s p.to (taken s o) (taken t q)
order_of_lines_taken s t o q r p h k =
    subst (λ (v : List ℕ). SameFindings s p.to v (taken t q)) (written_taken s o)
    (subst (λ (v : List ℕ). SameFindings s p.to (written s o) v) (written_taken t q)
    (order_of_lines_written s t o q r p (number_answered s o ∙ h) (number_answered t q ∙ k)))
