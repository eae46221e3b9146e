-- The public call of the crate answer_word: its contract settles it.
use Rattle.std.specs.Prelude.{refl}
use seplogic.Ra.Ura.{Ura}
use Rattle.one_result.specs.Law.{World, Settles, nothing, plain}
use Rattle.answer_word.specs.contracts.word_of as word_of

module _ {M : Type 1} (𝓤 : Ura M) (w : World 𝓤) where
  pub word_of_one : (κs : _) (args : _) → Settles 𝓤 (word_of.clauses w.𝓛 w.mem w.run κs args) nothing
  word_of_one κs args = plain 𝓤 _ _ (λ _. refl) (λ _ _ _. refl)
