-- A sheet whose unplaced ids are what its own lines leave has no finding 10 or 11. That a planned sheet is so stands in proofs/NoneLost.antt.
use Rattle.std.specs.Prelude.{◌≡◌, Bool, ℕ, ◌<◌, ◌≤◌}
use Rattle.std.proofs.Math.Path.{refl}
use Rattle.std.proofs.Common.{sym, ◌∙◌, ap, le_refl, arith}
use Rattle.std.proofs.Math.Bool.{true, false}
use mathlib.Core.List.{List, []}
use borrow.Author.Tests.{lt-ltb}
use Rattle.std.proofs.Math.ListN.{get_or}
use Rattle.lists.specs.Table.{table_at}
use Rattle.domain.specs.Bounds.{most_kinds, most_unplaced}
use Rattle.lists.specs.Below.{any_below, any_none, any_same, all_none}
use Rattle.sheet.specs.declared.Sheet.{Sheet}
use Rattle.sheet.specs.Sheets.{kind_at, unplaced_at, same_id, sheet_refusal}
use Rattle.sheet.specs.Accepted.{Accepted, accepted}
use Rattle.plan_unplaced.specs.declared.Left.{Left}
use Rattle.plan_unplaced.specs.Short.{is_short}
use Rattle.plan_unplaced.specs.Left.{short_kind, flags_of, left_after, left_few}
use Rattle.plan_sheet.specs.Plans.{Plan}
use Rattle.plan_sheet.specs.Planned.{planned_sheet}
use Rattle.lists.specs.Below.{all_below, all_none, is_at}
use Rattle.check_packing.specs.Lines.{short}
use Rattle.check_list.specs.Finding.{lost_words, wrong_words}
use Rattle.check_list.specs.View.{lost_found, wrong_found}
use Rattle.check_packing.specs.Findings.{missing, wrongly_listed}
use Rattle.check_packing.proofs.ById.{own_kind}
use Rattle.check_packing.proofs.Packed.{packed_distinct}
use Rattle.plan_laws.specs.Accepted.{Lists}
use Rattle.plan_laws.specs.Listed.{flag_at, Apart, Entry, flagged_listed, entries}

-- ---- the two counts are one: a kind is short for the checker where it is for the unplaced list
pub short_same : (s : Sheet) → Accepted s → (k : ℕ) → k < s.many.kinds
    → short s k ≡ short_kind s.kinds s.lines s.many.lines k
unfolding short short_kind is_short
short_same s a k l = rw (packed_distinct s a k l)

-- the findings on what was not placed
pub record NoneLost (s : Sheet) : Type 0 where
  pub none_missing : all_below (missing s) s.many.kinds ≡ []
  pub none_wrong : all_below (wrongly_listed s) s.many.unplaced ≡ []

apart : (s : Sheet) → Accepted s → (k : ℕ) → k < s.many.kinds → Apart s.kinds k
unfolding same_id
apart s a k l j i = any_none (same_id s.kinds k) k j (a.kind_sound k l).id_new i

-- ---- a sheet whose unplaced ids are what its own lines leave

module _ (s : Sheet) (a : Accepted s) where
  abbrev flags : List Bool
  flags = flags_of s.kinds s.lines s.many.lines s.many.kinds

  abbrev left : Left
  left = left_after s.kinds flags s.many.kinds

  flag_is : (k : ℕ) → k < s.many.kinds → short s k ≡ get_or flags k false
  flag_is k l =
      short_same s a k l
      ∙ sym (flag_at s.kinds s.lines s.many.lines s.many.kinds k
      a.few_of.kinds l)

  module _ (many : s.many.unplaced ≡ left.count) (same : (j : ℕ) → j < left.count → unplaced_at s j ≡ get_or left.ids j 0) where
    listed_same : (id n : ℕ) → n ≤ left.count → any_below (is_at s.unplaced id) n ≡ any_below (is_at left.ids id) n
    unfolding is_at
    listed_same id n h = any_same (is_at s.unplaced id) (is_at left.ids id) n (λ j l. rw (same j (omega arith)))

    not_missing : (k : ℕ) → k < s.many.kinds → missing s k ≡ []
    unfolding lost_found lost_words
    not_missing k l = rw (flag_is k l, many, listed_same (kind_at s k).id left.count (le_refl left.count)) (go (get_or flags k false) refl)
      where
        go : (b : Bool) → get_or flags k false ≡ b → lost_words (kind_at s k).id b (any_below (is_at left.ids (kind_at s k).id) left.count) ≡ []
        go true f = rw (flagged_listed s.kinds flags s.many.kinds k a.few_of.kinds l f)
        go false f = refl

    not_wrong : (i : ℕ) → i < left.count → wrongly_listed s i ≡ []
    unfolding wrong_found wrong_words
    not_wrong i l =
        let e : Entry s.kinds flags s.many.kinds left i = entries s.kinds flags s.many.kinds a.few_of.kinds (apart s a) i l in
        rw (
          same i l ∙ e.is,
          own_kind s a e.kind e.below,
          lt-ltb e.kind s.many.kinds e.below,
          flag_is e.kind e.below,
          e.flagged,
          listed_same (kind_at s e.kind).id i (omega arith),
          e.new,
        )

    none_lost : NoneLost s
    none_lost =
        record {
          none_missing = all_none (missing s) s.many.kinds not_missing;
          none_wrong = ap (all_below (wrongly_listed s)) many ∙ all_none (wrongly_listed s) left.count not_wrong;
        }

-- ---- and a planned sheet that is accepted is so

pub sheet_none_lost : (order : Sheet) (p : Plan) → sheet_refusal order ≡ 0 → sheet_refusal (planned_sheet order p) ≡ 0 → Lists order.kinds order.many.kinds p
    → NoneLost (planned_sheet order p)
unfolding planned_sheet
sheet_none_lost order p z t h =
    let s = planned_sheet order p in
    let few = left_few order.kinds
    (flags_of order.kinds p.lines p.placed order.many.kinds)
    order.many.kinds in
    let m = (accepted order z).few_of.kinds in
    none_lost s (accepted s t) h.count_is
    (λ j l. table_at 0 most_unplaced (λ i. get_or p.ids i 0) most_kinds j 0 (omega arith) (omega arith) ∙ ap (λ (ids : List ℕ). get_or ids j 0) h.ids_are)
