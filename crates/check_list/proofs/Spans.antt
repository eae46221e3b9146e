-- The spans of blocks: one block more, and what a far span tells.
use Rattle.std.proofs.Common.{◌≡◌, refl, sym, ap, ◌∙◌, Bool, true, false, cond, List, [], ℕ, ◌+◌, ◌-◌, ◌*◌, ◌/◌, ◌<◌, ◌≤◌, min, length, take, drop}
use Rattle.std.proofs.Common.{set, Float, arith}
use Rattle.std.proofs.Common.{get_or-set_same, get_or-set_other}
use Rattle.std.proofs.lemmas.List.{get_or-take, get_or-drop}
use mathlib.Core.Bool.{false≢true}
use native.Mathlib.Decide.{dec_lt}
use Rattle.floats.specs.Ops.{none, ◌⊘◌}
use Rattle.domain.specs.Bounds.{most_lines}
use Rattle.check_pair.specs.declared.Extent.{Extent}
use Rattle.check_pair.specs.Pair.{gaps}
use Rattle.check_pair.specs.Shortcut.{some_gap}
use Rattle.check_pair.specs.Span.{spans}
use Rattle.check_pair.proofs.FarApart.{no_number}
use Rattle.check_pair.proofs.Spanned.{span_far}
use Rattle.check_words.specs.Boxes.{box_at}
use Rattle.check_list.specs.Blocks.{block, BlockEnd, Spanned}

-- a line of the block that line j is in
pub block_same : {j n r k : ℕ} → j ≤ k → k < r → BlockEnd j n r → k / block ≡ j / block
block_same from below b = let h = b.inside in omega arith

-- and of block k
in_block : (j k n r : ℕ) → BlockEnd (k * block) n r → j < min n ((k + 1) * block) → j < r
in_block j k n r b h = elim (dec_lt r n) [ yes c ↦ let e = b.whole c in omega arith | no c ↦ omega arith ]

-- a box of a part of them
pub box_between : (boxes : List Extent) (from to i : ℕ) → i < to - from → box_at (take (to - from) (drop from boxes)) i ≡ box_at boxes (from + i)
box_between boxes from to i h = get_or-take (to - from) (drop from boxes) i _ h ∙ get_or-drop from boxes i _

module _ (rows : List Extent) (n k : ℕ) (s : Extent) (few : n ≤ most_lines) (long : length rows ≡ most_lines / block) (here : k * block < n) where
  -- the lines before stay within their spans, and those of block k are within the new one
  pub spanned_more : (boxes : List Extent) (to : ℕ) → BlockEnd (k * block) n to → Spanned boxes (min n (k * block)) rows
      → ((j : ℕ) → j < to - k * block → spans s (box_at boxes (k * block + j)) ≡ true) → Spanned boxes (min n ((k + 1) * block)) (set rows k s)
  spanned_more boxes to b before own = record { each = each }
    where
      each : (j : ℕ) → j < min n ((k + 1) * block) → spans (box_at (set rows k s) (j / block)) (box_at boxes j) ≡ true
      each j below =
          let e = box_at boxes j in
          elim (dec_lt j (k * block)) [
            | yes c ↦
                let d : (j / block ≡ k → ⊥) = (λ q. omega arith) in
                ap (λ (v : Extent). spans v e) (get_or-set_other rows k (j / block) s _ d) ∙ before.each j (omega arith)
            | no c ↦
                let same : j / block ≡ k = omega arith in
                let there : k < length rows = omega arith in
                let q : k * block + (j - k * block) ≡ j = omega arith in
                let t = in_block j k n to b below in
                rw (same, get_or-set_same rows k s (record { min = []; max = [] }) there) (rw q at (own (j - k * block) (omega arith)))
          ]

-- without good spans nothing is told
pub told_far : (boxes rows : List Extent) (n : ℕ) (good : Bool) → (good ≡ true → Spanned boxes n rows)
    → (limit reach : Float) → reach ≡ cond good limit (none ⊘ none)
    → (i j : ℕ) → i < n → j < n → some_gap reach (gaps (box_at boxes i) (box_at rows (j / block))) ≡ true
    → some_gap limit (gaps (box_at boxes i) (box_at boxes j)) ≡ true
told_far boxes rows n true h limit reach e i j l m g =
    span_far limit (box_at boxes i) (box_at rows (j / block)) (box_at boxes j) (box_at rows (i / block))
    ((h refl).each i l) ((h refl).each j m) (rw e at g)
told_far boxes rows n false h limit reach e i j l m g =
    absurd (false≢true (sym (no_number (gaps (box_at boxes i) (box_at rows (j / block)))) ∙ (rw e at g)))
