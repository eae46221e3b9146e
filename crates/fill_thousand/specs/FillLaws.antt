-- What the refusal of a fill says of its sheet, and the answer in either case.
use Rattle.std.specs.Prelude.{◌≡◌, ℕ, zero, suc, ◌*◌, ◌/◌, ◌<◌, false, ◌||◌, List, ◌==◌, ◌≢◌, refl, Float, Ok, Err}
use Rattle.std.proofs.Common.{mul-pos, arith, sym, ap}
use Rattle.floats.specs.Ops.{x, y, z}
use Rattle.floats.specs.Weak.{true_false}
use Rattle.lists.specs.Below.{any_below, sum_below}
use Rattle.domain.specs.Refusals.{when, or_else}
use Rattle.lists.specs.Bools.{or_left, or_right}
use Rattle.domain.specs.Laws.{or_else_first, or_else_second, when_none}
use Rattle.domain.specs.Refusal.{answer_with, refusal_by, no_number}
use Rattle.sheet.specs.declared.Sheet.{Sheet}
use Rattle.sheet.specs.Sheets.{sheet_refusal}
use Rattle.fill_thousand.specs.Sides.{side_of}
use Rattle.fill_thousand.specs.Fill.{uneven, uneven_kind, fill_refusal, solid_of, line_volume, per_thousand, fill_of}

-- the sheet's own refusal, then 8
pub sheet_first : (s : Sheet) (r : ℕ) → r ≡ sheet_refusal s → (r ≢ 0) → r ≡ fill_refusal s
unfolding fill_refusal or_else
sheet_first s zero e h = absurd (h refl)
sheet_first s (suc r) e h =
    ap (λ (k : ℕ). or_else k (when (uneven s.container.size || any_below (uneven_kind s.kinds) s.many.kinds) 8)) e

pub lengths_last : (s : Sheet) → sheet_refusal s ≡ 0 → when (uneven s.container.size || any_below (uneven_kind s.kinds) s.many.kinds) 8 ≡ fill_refusal s
unfolding fill_refusal or_else
lengths_last s h =
    sym (ap (λ (k : ℕ). or_else k (when (uneven s.container.size || any_below (uneven_kind s.kinds) s.many.kinds) 8)) h)

-- a fill that is not refused is of an accepted sheet
pub sheet_sound : (s : Sheet) → fill_refusal s ≡ 0 → sheet_refusal s ≡ 0
unfolding fill_refusal
sheet_sound s h = or_else_first (sheet_refusal s) _ h

-- and its container has a volume
above : (n : ℕ) → (n == 0) ≡ false → 0 < n
above zero h = true_false h
above (suc n) h = omega arith

solid_some : (size : List Float) → uneven size ≡ false → 0 < solid_of size
unfolding uneven solid_of
solid_some size h =
    let a = side_of (x size) in
    let b = side_of (y size) in
    let d = side_of (z size) in
    let r = or_right (a == 0) (b == 0 || d == 0) h in
    mul-pos (mul-pos (above a (or_left (a == 0) (b == 0 || d == 0) h)) (above b (or_left (b == 0) (d == 0) r))) (above d (or_right (b == 0) (d == 0) r))

pub container_some : (s : Sheet) → fill_refusal s ≡ 0 → 0 < solid_of s.container.size
unfolding fill_refusal
container_some s h =
    let a = uneven s.container.size in
    let b = any_below (uneven_kind s.kinds) s.many.kinds in
    solid_some s.container.size (or_left a b (when_none (a || b) 7 (or_else_second (sheet_refusal s) (when (a || b) 8) h)))

-- ---- the fill

pub filled_by : (s : Sheet) (v q : ℕ) → v ≡ sum_below (line_volume s.kinds s.many.kinds s.lines) s.many.lines → q ≡ solid_of s.container.size
    → v * 1000 / q ≡ per_thousand s
unfolding per_thousand
filled_by s v q e f = rw (← e, ← f) refl

-- ---- the answer

pub answer_refused : (s : Sheet) (r : ℕ) → r ≡ fill_refusal s → (r ≢ 0) → Err (refusal_by r 0) ≡ fill_of s
unfolding fill_of answer_with
answer_refused s zero e h = absurd (h refl)
answer_refused s (suc r) e h = rw (← e) refl

pub answer_filled : (s : Sheet) (v q : ℕ)
    → fill_refusal s ≡ 0 → v ≡ sum_below (line_volume s.kinds s.many.kinds s.lines) s.many.lines → q ≡ solid_of s.container.size
    → Ok (v * 1000 / q) ≡ fill_of s
unfolding fill_of per_thousand
answer_filled s v q h e f = rw (← e, ← f) (no_number (fill_refusal s) 0 (v * 1000 / q) h)
