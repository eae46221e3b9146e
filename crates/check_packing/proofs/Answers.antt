-- The answers of `check_packing`: no findings, no room, the findings listed; and a refused file.
use mathlib.Core.Path.{◌≡◌, refl, ap, ◌∙◌}
use mathlib.Core.List.{List, [], ◌∷◌}
use Prim.Native.Nat.{ℕ, zero, suc, ◌/◌, ◌<◌, ◌≤◌}
use native.Mathlib.Nat.{zero-add}
use native.Mathlib.Omega.{arith}
use borrow.Author.Tests.{lt-ltb, le-ltb, ne_eqb}
use lib.ListN.{length}
use lib.Seq.{sets-eq}
use Rattle.domain.specs.Refusals.{or_else}
use Rattle.sheet.specs.declared.Sheet.{Sheet}
use Rattle.sheet.specs.Sheets.{sheet_refusal}
use Rattle.std.proofs.Common.{Result, Ok, Err}
use Rattle.domain.specs.declared.Refusal.{Refusal}
use Rattle.domain.specs.declared.Refusal.TheVariants.{Room}
use Rattle.domain.specs.Refusal.{answer_with, answer_of, refused_as}
use Rattle.check_words.specs.Wrote.{Wrote}
use Rattle.check_packing.specs.Findings.{findings}
use Rattle.file_read.specs.Reading.{sheet_of, refusal_of}
use Rattle.check_packing.specs.Check.{check_refusal, count_of, checked_of, cells_of, file_refusal, file_count, file_checked, file_cells, CheckedFile}

module _ (s : Sheet) (o : List ℕ) where
  pub answer_none : {x x' : List ℕ} {n : ℕ} → sheet_refusal s ≡ 0 → Wrote x 0 (findings s) n x' → n ≡ 0
      → (Ok 0 ≡ checked_of s o) × (o ≡ cells_of s o)
  unfolding checked_of cells_of check_refusal count_of or_else answer_with
  answer_none {x} {x'} {n} e w h = go (findings s) refl
    where
      go : (ws : List ℕ) → findings s ≡ ws → (Ok 0 ≡ checked_of s o) × (o ≡ cells_of s o)
      go [] k = rw (e, k, le-ltb (length o) 0 (omega arith)) (refl, refl)
      go (v ∷ ws) k = let l : length (findings s) ≡ suc (length ws) = ap (λ (q : List ℕ). length q) k in absurd (omega (arith, w.next))

  pub answer_room : {x x' : List ℕ} {n : ℕ} → sheet_refusal s ≡ 0 → Wrote x 0 (findings s) n x' → length o < n
      → (Err (Room (n / 5)) ≡ checked_of s o) × (o ≡ cells_of s o)
  unfolding checked_of cells_of check_refusal count_of or_else answer_with
  answer_room {x} {x'} {n} e w h =
      let k : n ≡ length (findings s) = omega (arith, w.next) in
      rw (e, lt-ltb (length o) (length (findings s)) (omega arith), k) (refl, refl)

  pub answer_listed : {x x' o' : List ℕ} {n r : ℕ} → sheet_refusal s ≡ 0 → Wrote x 0 (findings s) n x' → n ≤ length o → Wrote o 0 (findings s) r o'
      → (Ok (n / 5) ≡ checked_of s o) × (o' ≡ cells_of s o)
  unfolding checked_of cells_of check_refusal count_of or_else answer_with
  answer_listed {x} {x'} {o'} {n} {r} e w h v =
      let k : n ≡ length (findings s) = omega (arith, w.next) in
      rw (e, le-ltb (length o) (length (findings s)) (omega arith), k) (refl, v.cells ∙ sets-eq (findings s) o 0 (omega arith) ∙ rw zero-add)

-- ---- of a file

pub file_refused : {A : Type 0} (f o : List ℕ) (v : A) (r : Refusal) → Err r ≡ answer_of (refusal_of f) v → CheckedFile f o (Err r) o
unfolding file_checked file_refusal file_count file_cells answer_with
file_refused f o v r e = go (refusal_of f) refl e
  where
    go : (n : ℕ) → refusal_of f ≡ n → Err r ≡ answer_of n v → CheckedFile f o (Err r) o
    go zero k h = absurd (cc)
    go (suc n) k h =
        let z = ne_eqb (suc n) 0 (λ q. omega arith) in
        record { told = rw (k, z) (refused_as (suc n) 0 v 0 r h); cells = rw (k, z) refl }

pub file_checked_lem : {f o o' : List ℕ} {r : Result ℕ Refusal} → refusal_of f ≡ 0 → (r ≡ checked_of (sheet_of f) o) × (o' ≡ cells_of (sheet_of f) o)
    → CheckedFile f o r o'
unfolding file_checked file_refusal file_count file_cells checked_of
file_checked_lem e h = record { told = rw e h.0; cells = rw e h.1 }
