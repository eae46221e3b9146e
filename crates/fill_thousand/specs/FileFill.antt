-- The fill per thousand of a load file: its refusal, or the fill of the sheet that it says. RULES: Fill per thousand
use Rattle.std.specs.Prelude.{◌≡◌, refl, ℕ, zero, suc, ◌<◌, Bool, true, false, cond, ◌||◌, List, ◌==◌, Result, Ok, Err}
use Rattle.std.proofs.Common.{arith, ne_eqb}
use Rattle.lists.specs.Below.{any_below, any_none}
use Rattle.domain.specs.declared.Refusal.{Refusal}
use Rattle.domain.specs.declared.Refusal.TheVariants.{Uneven}
use Rattle.domain.specs.Refusals.{when}
use Rattle.domain.specs.Refusal.{answer_of, answer_with, refused_or, or_refuses, no_number}
use Rattle.file_read.specs.Reading.{sheet_of, refusal_of}
use Rattle.file_read.specs.Refusal.{sheet_sound}
use Rattle.fill_thousand.specs.Fill.{uneven, uneven_kind, fill_refusal, per_thousand, fill_of}
use Rattle.fill_thousand.specs.FillLaws.{lengths_last}

unfoldable pub file_refusal : List ℕ → ℕ
file_refusal f = cond (refusal_of f == 0) (fill_refusal (sheet_of f)) (refusal_of f)

unfoldable pub file_fill : List ℕ → Result ℕ Refusal
file_fill f = refused_or (refusal_of f) (fill_of (sheet_of f))

-- which is the one refusal's number, or the fill
pub file_answer : (f : List ℕ) → file_fill f ≡ answer_of (file_refusal f) (per_thousand (sheet_of f))
unfolding file_fill file_refusal fill_of answer_with refused_or
file_answer f = go (refusal_of f)
  where
    go : (n : ℕ) → refused_or n (fill_of (sheet_of f))
        ≡ answer_of (cond (n == 0) (fill_refusal (sheet_of f)) n) (per_thousand (sheet_of f))
    go zero = refl
    go (suc n) = rw (ne_eqb (suc n) 0 (λ q. omega arith)) refl

pub file_refused : {A : Type 0} (f : List ℕ) (v : A) (r : Refusal) → Err r ≡ answer_of (refusal_of f) v → Err r ≡ file_fill f
unfolding file_fill
file_refused f v r e = or_refuses (refusal_of f) v (fill_of (sheet_of f)) r e

-- past the file's own refusal the lengths decide
pub lengths_decide : (f : List ℕ) (b : Bool) → refusal_of f ≡ 0
    → b ≡ (uneven (sheet_of f).container.size || any_below (uneven_kind (sheet_of f).kinds) (sheet_of f).many.kinds) → when b 8 ≡ fill_refusal (sheet_of f)
lengths_decide f b h e = rw e (lengths_last (sheet_of f) (sheet_sound f h))

pub file_uneven : (f : List ℕ) (r : Refusal) → refusal_of f ≡ 0
    → (uneven (sheet_of f).container.size || any_below (uneven_kind (sheet_of f).kinds) (sheet_of f).many.kinds) ≡ true → r ≡ Uneven → Err r ≡ file_fill f
unfolding file_fill refused_or fill_of answer_with
file_uneven f r h e k = rw (h, ← (lengths_decide f true h (rw e refl)), k) refl

pub file_filled : (f : List ℕ) (x : Result ℕ Refusal) → refusal_of f ≡ 0 → x ≡ fill_of (sheet_of f) → x ≡ file_fill f
unfolding file_fill refused_or
file_filled f x h e = rw (h, e) refl

-- so where nothing refuses, the fill of the sheet is answered
pub file_filled_by : (f : List ℕ) (v : ℕ) → refusal_of f ≡ 0 → fill_refusal (sheet_of f) ≡ 0 → v ≡ per_thousand (sheet_of f) → Ok v ≡ file_fill f
unfolding fill_of
file_filled_by f v h k e = file_filled f (Ok v) h (rw e (no_number (fill_refusal (sheet_of f)) 0 (per_thousand (sheet_of f)) k))

-- ---- what a test of lengths that was asked says

pub uneven_only : {A : Type 0} (b : Bool) (v : A) (r : Refusal) → Err r ≡ answer_of (when b 8) v → (b ≡ true) × (r ≡ Uneven)
unfolding answer_with
uneven_only true v r e = (refl, cc)
uneven_only false v r e = absurd (cc)

pub even_only : {A : Type 0} (b : Bool) (v u : A) → Ok u ≡ answer_of (when b 8) v → b ≡ false
unfolding answer_with
even_only true v u e = absurd (cc)
even_only false v u e = refl

-- one of some is one of them
pub any_one : (p : ℕ → Bool) (n k : ℕ) → k < n → p k ≡ true → any_below p n ≡ true
any_one p n k l e = go (any_below p n) refl
  where
    go : (b : Bool) → any_below p n ≡ b → any_below p n ≡ true
    go true h = h
    go false h = absurd (cc (any_none p n k h l))
