-- Laws on tests, and on words that are given only where a test holds.
use Rattle.std.specs.Prelude.{◌≡◌, refl, Bool, true, false, List, ℕ}
use Rattle.std.proofs.Common.{ap, ◌∙◌}
use Rattle.check_words.specs.Words.{only_if}

pub only_same : (b c : Bool) (ws vs : List ℕ) → b ≡ c → (b ≡ true → ws ≡ vs) → only_if b ws ≡ only_if c vs
only_same true c ws vs e h = h refl ∙ ap (λ (v : Bool). only_if v vs) e
only_same false c ws vs e h = ap (λ (v : Bool). only_if v vs) e
