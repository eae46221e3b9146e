-- The list itself: the ids of the short kinds, each once, in kind order. RULES: Unplaced list
use Rattle.std.specs.Prelude.{◌≡◌, Bool, true, false, cond, ◌||◌, List, ℕ, zero, suc, ◌+◌, ◌≤◌, ltb, length, get_or, set, replicate, Result}
use Rattle.std.proofs.Math.Bool.{or-false}
use Rattle.std.proofs.Common.{le_refl, arith, ltb-false, le-ltb}
use Rattle.lists.specs.Table.{table}
use Rattle.domain.specs.Bounds.{most_kinds, most_lines}
use Rattle.domain.specs.declared.Refusal.{Refusal}
use Rattle.domain.specs.Refusals.{when}
use Rattle.domain.specs.Refusal.{answer_of}
use Rattle.lists.specs.Bools.{or_left, or_right}
use Rattle.measures.specs.declared.Kind.{Kind}
use Rattle.sheet.specs.declared.Line.{Line}
use Rattle.sheet.specs.declared.Sheet.{Sheet}
use Rattle.sheet.specs.Sheets.{no_kind}
use Rattle.plan_unplaced.specs.declared.Left.{Left}
use Rattle.plan_unplaced.specs.Short.{is_short}

-- kind k is short
unfoldable pub short_kind : List Kind → List Line → ℕ → ℕ → Bool
short_kind kinds lines n k = is_short lines n (get_or kinds k no_kind).id (get_or kinds k no_kind).quantity

-- a flag for each of the first m kinds, and false past them
abbrev pub flags_of : List Kind → List Line → ℕ → ℕ → List Bool
flags_of kinds lines n m = table false most_kinds (short_kind kinds lines n) m

-- no id
abbrev pub no_left : Left
no_left = record { count = 0; ids = replicate most_kinds 0 }

-- the list with one id more, where the test holds
unfoldable pub push_if : Bool → ℕ → Left → Left
push_if short id l = cond short (record { count = l.count + 1; ids = set l.ids l.count id }) l

-- RULES: Unplaced list. The ids of the kinds that are marked as short, each once, in the order of the kinds
unfoldable pub left_after : List Kind → List Bool → ℕ → Left
left_after kinds flags zero = no_left
left_after kinds flags (suc m) = push_if (get_or flags m false) (get_or kinds m no_kind).id (left_after kinds flags m)

-- RULES: Refusals. More kinds or lines than there may be
abbrev pub over_bound : ℕ → ℕ → Bool
over_bound m n = ltb most_kinds m || ltb most_lines n

-- the unplaced list that n of the lines leave: the ids of those of m kinds that are short by them
unfoldable pub left_by : List Kind → ℕ → List Line → ℕ → Left
left_by kinds m lines n = left_after kinds (flags_of kinds lines n m) m

-- the same, refused by 2 for a number over its bound, and where the list has fewer lines
unfoldable pub left_of : List Kind → ℕ → List Line → ℕ → Result Left Refusal
left_of kinds m lines n = answer_of (when (over_bound m n || ltb (length lines) n) 2) (left_by kinds m lines n)

-- what a sheet's own lines leave
abbrev pub left_of_sheet : Sheet → Left
left_of_sheet s = left_by s.kinds s.many.kinds s.lines s.many.lines

-- the same, refused by 2 for a number over its bound
unfoldable pub unplaced_of : Sheet → Result Left Refusal
unplaced_of s = answer_of (when (over_bound s.many.kinds s.many.lines) 2) (left_of_sheet s)

-- ---- counts that are not over

pub record Within (m : ℕ) (lines : List Line) (n : ℕ) : Type 0 where
  pub kinds : m ≤ most_kinds
  pub few : n ≤ most_lines
  pub long : n ≤ length lines

pub within : (m : ℕ) (lines : List Line) (n : ℕ) → (over_bound m n || ltb (length lines) n) ≡ false → Within m lines n
within m lines n h =
    let a = or_left (over_bound m n) _ h in
    record {
      kinds = ltb-false most_kinds m (or_left (ltb most_kinds m) _ a);
      few = ltb-false most_lines n (or_right (ltb most_kinds m) _ a);
      long = ltb-false (length lines) n (or_right (over_bound m n) _ h);
    }

-- where the list has as many lines, that counts alone
pub left_long : (kinds : List Kind) (m : ℕ) (lines : List Line) (n : ℕ) → n ≤ length lines
    → left_of kinds m lines n ≡ answer_of (when (over_bound m n) 2) (left_by kinds m lines n)
unfolding left_of
left_long kinds m lines n h = rw (le-ltb (length lines) n h, or-false (over_bound m n))

-- nothing is refused of counts within their bounds
pub none_over : (m n : ℕ) → m ≤ most_kinds → n ≤ most_lines → over_bound m n ≡ false
none_over m n h k = rw (le-ltb most_kinds m h, le-ltb most_lines n k)

-- ---- m kinds give at most m ids
push_few : (b : Bool) (id : ℕ) (l : Left) → (push_if b id l).count ≤ l.count + 1
unfolding push_if
push_few true id l = le_refl (l.count + 1)
push_few false id l = omega arith

pub left_few : (kinds : List Kind) (flags : List Bool) (m : ℕ) → (left_after kinds flags m).count ≤ m
unfolding left_after
left_few kinds flags zero = le_refl 0
left_few kinds flags (suc m) =
    let h = left_few kinds flags m in
    let p = push_few (get_or flags m false) (get_or kinds m no_kind).id (left_after kinds flags m) in
    omega arith
