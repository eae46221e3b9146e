-- Laws on words written part by part.
use Rattle.std.specs.Prelude.{◌≡◌, refl, ℕ, suc, ◌+◌, ◌≤◌, List, [], ◌∷◌, ◌++◌, length, take, drop, set, Bool, true, false}
use Rattle.std.proofs.Common.{sym, ap, ◌∙◌, add-zero, add-suc, suc-add, add-one, arith, append_assoc, length-append, drop-drop}
use Rattle.std.proofs.lemmas.List.{length-take-le, take-append-drop}
use Rattle.std.proofs.lemmas.List.Edits.{sets, sets-eq}
use Rattle.std.proofs.Math.Seq.{length-sets, set_out}
use Rattle.lists.specs.Below.{all_below}
use Rattle.check_words.specs.Words.{only_if}
use Rattle.check_words.specs.Wrote.{Wrote}

sets_append : (o : List ℕ) (at : ℕ) (ws vs : List ℕ) → sets o at (ws ++ vs) ≡ sets (sets o at ws) (at + length ws) vs
sets_append o at [] vs = rw add-zero
sets_append o at (w ∷ ws) vs = sets_append (set o at w) (suc at) ws vs ∙ rw (add-suc, suc-add)

pub wrote_none : (o : List ℕ) (at : ℕ) → Wrote o at [] at o
wrote_none o at = record { next = sym (add-zero at); cells = refl }

pub wrote_then : {o o₁ o₂ : List ℕ} {at m r : ℕ} {ws vs : List ℕ} → Wrote o at ws m o₁ → Wrote o₁ m vs r o₂ → Wrote o at (ws ++ vs) r o₂
wrote_then {o} {o₁} {o₂} {at} {m} {r} {ws} {vs} a b =
    record {
      next = omega (arith, a.next, b.next, length-append ws vs);
      cells = b.cells ∙ rw (a.cells, a.next) (sym (sets_append o at ws vs));
    }

-- words that are past the last cell
sets_past : (o : List ℕ) (at : ℕ) (ws : List ℕ) → length o ≤ at → sets o at ws ≡ o
sets_past o at [] h = refl
sets_past o at (w ∷ ws) h = rw (set_out o at w h) (sets_past o (suc at) ws (omega arith))

pub wrote_past : (o : List ℕ) (at : ℕ) (ws : List ℕ) → length o ≤ at → Wrote o at ws (at + length ws) o
wrote_past o at ws h = record { next = refl; cells = sym (sets_past o at ws h) }

-- words that all have a cell
pub wrote_whole : (o : List ℕ) (at n : ℕ) (ws : List ℕ) → n ≡ length ws → at + n ≤ length o
    → Wrote o at ws (at + length ws) (take at o ++ (ws ++ drop n (drop at o)))
wrote_whole o at n ws e h =
    record { next = refl; cells = rw (e, drop-drop) (sym (sets-eq ws o at (rw e at h) ∙ append_assoc (take at o) ws _)) }

-- words of which the first n have one
pub wrote_part : (o : List ℕ) (at n : ℕ) (ws : List ℕ) → n ≤ length ws → at + n ≡ length o
    → Wrote o at ws (at + length ws) (take at o ++ (take n ws ++ drop n (drop at o)))
wrote_part o at n ws h e =
    let l : length (take n ws) ≡ n = length-take-le n ws h in
    let f = wrote_whole o at n (take n ws) (sym l) (omega arith) in
    let m = length-sets o at (take n ws) in
    record {
      next = refl;
      cells =
          f.cells
          ∙ sym (sets_past (sets o at (take n ws)) (at + length (take n ws)) (drop n ws) (omega arith))
          ∙ sym (sets_append o at (take n ws) (drop n ws))
          ∙ ap (sets o at) (take-append-drop n ws);
    }

-- one more turn of a loop
pub wrote_more : (g : ℕ → List ℕ) (n : ℕ) {o o₁ o₂ : List ℕ} {at m r : ℕ}
    → Wrote o at (all_below g n) m o₁ → Wrote o₁ m (g n) r o₂ → Wrote o at (all_below g (n + 1)) r o₂
unfolding all_below
wrote_more g n a b = rw add-one (wrote_then a b)

pub wrote_length : {o o' : List ℕ} {at r : ℕ} {ws : List ℕ} → Wrote o at ws r o' → length o' ≡ length o
wrote_length {o} {o'} {at} {r} {ws} w = ap length w.cells ∙ length-sets o at ws

pub only_nothing : (b : Bool) → only_if b [] ≡ []
only_nothing true = refl
only_nothing false = refl
