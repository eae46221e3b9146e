-- The public calls of the crate file_bytes: each contract settles its call.
use Rattle.std.specs.Prelude.{◌≡◌, refl}
use Rattle.std.proofs.Common.{sym, ◌∙◌}
use seplogic.Ra.Ura.{Ura}
use Rattle.file_bytes.specs.Bytes.{byte_out, u16_out, u32_out, u64_out, f64_out}
use Rattle.file_bytes.specs.Stores.{stored}
use Rattle.one_result.specs.Law.{World, Settles, nothing, plain, told}
use Rattle.file_bytes.specs.contracts.byte_at as byte_at
use Rattle.file_bytes.specs.contracts.u16_at as u16-at
use Rattle.file_bytes.specs.contracts.u32_at as u32-at
use Rattle.file_bytes.specs.contracts.u64_at as u64-at
use Rattle.file_bytes.specs.contracts.f64_at as f64-at
use Rattle.file_bytes.specs.contracts.u32_of as u32-of
use Rattle.file_bytes.specs.contracts.f64_of as f64-of
use Rattle.file_bytes.specs.contracts.put_byte as put_byte
use Rattle.file_bytes.specs.contracts.put_u16 as put-u16
use Rattle.file_bytes.specs.contracts.put_u32 as put-u32
use Rattle.file_bytes.specs.contracts.put_u64 as put-u64
use Rattle.file_bytes.specs.contracts.put_f64 as put-f64

module _ {M : Type 1} (𝓤 : Ura M) (w : World 𝓤) where
  pub byte_at_one : (κs : _) (args : _) → Settles 𝓤 (byte_at.clauses w.𝓛 w.mem w.run κs args) nothing
  byte_at_one κs args = plain 𝓤 _ _ (λ _. refl) (λ _ _ _. refl)

  pub u16_at_one : (κs : _) (args : _) → Settles 𝓤 (u16-at.clauses w.𝓛 w.mem w.run κs args) nothing
  u16_at_one κs args = plain 𝓤 _ _ (λ _. refl) (λ _ _ _. refl)

  pub u32_at_one : (κs : _) (args : _) → Settles 𝓤 (u32-at.clauses w.𝓛 w.mem w.run κs args) nothing
  u32_at_one κs args = plain 𝓤 _ _ (λ _. refl) (λ _ _ _. refl)

  pub u64_at_one : (κs : _) (args : _) → Settles 𝓤 (u64-at.clauses w.𝓛 w.mem w.run κs args) nothing
  u64_at_one κs args = plain 𝓤 _ _ (λ _. refl) (λ _ _ _. refl)

  pub f64_at_one : (κs : _) (args : _) → Settles 𝓤 (f64-at.clauses w.𝓛 w.mem w.run κs args) nothing
  f64_at_one κs args = plain 𝓤 _ _ (λ _. refl) (λ _ _ _. refl)

  pub u32_of_one : (κs : _) (args : _) → Settles 𝓤 (u32-of.clauses w.𝓛 w.mem w.run κs args) nothing
  u32_of_one κs args = plain 𝓤 _ _ (λ _. refl) (λ _ _ _. refl)

  pub f64_of_one : (κs : _) (args : _) → Settles 𝓤 (f64-of.clauses w.𝓛 w.mem w.run κs args) nothing
  f64_of_one κs args = plain 𝓤 _ _ (λ _. refl) (λ _ _ _. refl)

  -- the bytes are lent
  pub put_byte_one : (κs : _) (args : _) → Settles 𝓤 (put_byte.clauses w.𝓛 w.mem w.run κs args) (λ e. e.0.now)
  put_byte_one κs args =
      told 𝓤 _ _ (λ r x. x ≡ stored args.0.now args.1.0 (byte_out args.1.1.0)) (λ _. refl) (λ _ _ _. refl) (λ r s x y p q. (refl, p ∙ sym q))

  pub put_u16_one : (κs : _) (args : _) → Settles 𝓤 (put-u16.clauses w.𝓛 w.mem w.run κs args) (λ e. e.0.now)
  put_u16_one κs args =
      told 𝓤 _ _ (λ r x. x ≡ stored args.0.now args.1.0 (u16_out args.1.1.0)) (λ _. refl) (λ _ _ _. refl) (λ r s x y p q. (refl, p ∙ sym q))

  pub put_u32_one : (κs : _) (args : _) → Settles 𝓤 (put-u32.clauses w.𝓛 w.mem w.run κs args) (λ e. e.0.now)
  put_u32_one κs args =
      told 𝓤 _ _ (λ r x. x ≡ stored args.0.now args.1.0 (u32_out args.1.1.0)) (λ _. refl) (λ _ _ _. refl) (λ r s x y p q. (refl, p ∙ sym q))

  pub put_u64_one : (κs : _) (args : _) → Settles 𝓤 (put-u64.clauses w.𝓛 w.mem w.run κs args) (λ e. e.0.now)
  put_u64_one κs args =
      told 𝓤 _ _ (λ r x. x ≡ stored args.0.now args.1.0 (u64_out args.1.1.0)) (λ _. refl) (λ _ _ _. refl) (λ r s x y p q. (refl, p ∙ sym q))

  pub put_f64_one : (κs : _) (args : _) → Settles 𝓤 (put-f64.clauses w.𝓛 w.mem w.run κs args) (λ e. e.0.now)
  put_f64_one κs args =
      told 𝓤 _ _ (λ r x. x ≡ stored args.0.now args.1.0 (f64_out args.1.1.0)) (λ _. refl) (λ _ _ _. refl) (λ r s x y p q. (refl, p ∙ sym q))
