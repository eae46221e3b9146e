-- The public calls of the crate floats: each contract settles its call.
use Rattle.std.specs.Prelude.{refl}
use seplogic.Ra.Ura.{Ura}
use Rattle.one_result.specs.Law.{World, Settles, nothing, plain}
use Rattle.floats.specs.contracts.of_bits as of-bits
use Rattle.floats.specs.contracts.bits_of as bits_of
use Rattle.floats.specs.contracts.larger as larger

module _ {M : Type 1} (𝓤 : Ura M) (w : World 𝓤) where
  pub of_bits_one : (κs : _) (args : _) → Settles 𝓤 (of-bits.clauses w.𝓛 w.mem w.run κs args) nothing
  of_bits_one κs args = plain 𝓤 _ _ (λ _. refl) (λ _ _ _. refl)

  pub bits_of_one : (κs : _) (args : _) → Settles 𝓤 (bits_of.clauses w.𝓛 w.mem w.run κs args) nothing
  bits_of_one κs args = plain 𝓤 _ _ (λ _. refl) (λ _ _ _. refl)

  pub larger_one : (κs : _) (args : _) → Settles 𝓤 (larger.clauses w.𝓛 w.mem w.run κs args) nothing
  larger_one κs args = plain 𝓤 _ _ (λ _. refl) (λ _ _ _. refl)
