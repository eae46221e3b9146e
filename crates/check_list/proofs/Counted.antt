-- Past the last cell a write changes nothing, and goes on by as many words as there are: five for a finding.
use mathlib.Core.Path.{◌≡◌, refl, sym}
use mathlib.Core.Bool.{Bool, true, false, cond, ◌&&◌}
use mathlib.Core.List.{List, [], ◌∷◌}
use Prim.Native.Nat.{ℕ, suc, ◌+◌, ◌≤◌}
use native.Mathlib.Nat.{le_refl, add-zero}
use native.Mathlib.Omega.{arith}
use lib.ListN.{length}
use lib.Seq.{sets, set_out}
use lib.Ieee.{Float}
use Rattle.check_pair.specs.declared.Verdict.{Verdict}
use Rattle.check_pair.specs.declared.Verdict.TheVariants.{Apart, Overlap, TooClose}
use Rattle.check_pair.specs.Close.{is_found}
use Rattle.check_words.specs.Words.{only_if}
use Rattle.check_words.specs.Wrote.{Wrote}
use Rattle.check_list.specs.Finding.{verdict_words}

sets_out : (ws o : List ℕ) (at : ℕ) → length o ≤ at → o ≡ sets o at ws
sets_out [] o at h = refl
sets_out (w ∷ ws) o at h = rw (set_out o at w h) (sets_out ws o (suc at) (omega arith))

-- a finding's words, where there is no cell for them
five_past : (o : List ℕ) (at a b c d e : ℕ) → length o ≤ at → Wrote o at (a ∷ b ∷ c ∷ d ∷ e ∷ []) (at + 5) o × (at + 5 ≤ at + 5)
five_past o at a b c d e h = (record { next = refl; cells = sets_out (a ∷ b ∷ c ∷ d ∷ e ∷ []) o at h }, le_refl (at + 5))

none_past : (o : List ℕ) (at : ℕ) → Wrote o at [] at o × (at ≤ at + 5)
none_past o at = (record { next = sym (add-zero at); cells = refl }, omega arith)

pub counted_past : (o : List ℕ) (at i j : ℕ) (asked : Float) (known : Bool) (v : Verdict) → length o ≤ at
    → Wrote o at (only_if known (verdict_words i j asked v)) (cond (known && is_found v) (at + 5) at) o × (cond (known && is_found v) (at + 5) at ≤ at + 5)
unfolding verdict_words
counted_past o at i j asked false v h = none_past o at
counted_past o at i j asked true Apart h = none_past o at
counted_past o at i j asked true Overlap h = five_past o at _ _ _ _ _ h
counted_past o at i j asked true (TooClose d) h = five_past o at _ _ _ _ _ h
