-- The public calls of the crate check_words: each contract settles its call.
use Rattle.std.specs.Prelude.{refl, ◌≡◌, Bool, true, false, List, ℕ, ltb}
use seplogic.Ra.Ura.{Ura}
use Rattle.one_result.specs.Law.{World, Settles, nothing, plain, told}
use Rattle.check_words.specs.contracts.put_if as put_if
use Rattle.check_words.specs.contracts.Finding.write_if as write_if
use Rattle.check_words.specs.contracts.box_of as box_of
use Rattle.std.proofs.Common.{sym, ◌∙◌, ltb-true, ltb-false}
use Rattle.check_words.specs.Words.{words_of, only_if}
use Rattle.check_words.specs.Wrote.{Wrote, Given, most_words}

pub wrote_one : {o : List ℕ} {at : ℕ} {ws : List ℕ} {r s : ℕ} {x y : List ℕ} → Wrote o at ws r x → Wrote o at ws s y → (r ≡ s) × (x ≡ y)
wrote_one p q = (p.next ∙ sym q.next, p.cells ∙ sym q.cells)

-- within the most cells the words are written, past them none
given_one : (o : List ℕ) (at : ℕ) (ws : List ℕ) (r s : ℕ) (x y : List ℕ) → Given o at ws r x → Given o at ws s y → (r ≡ s) × (x ≡ y)
given_one o at ws r s x y p q = go (ltb at most_words) refl
  where
    go : (b : Bool) → ltb at most_words ≡ b → (r ≡ s) × (x ≡ y)
    go true e = let h = ltb-true at most_words e in wrote_one (p.within h) (q.within h)
    go false e = let h = ltb-false at most_words e in wrote_one (p.past h) (q.past h)

module _ {M : Type 1} (𝓤 : Ura M) (w : World 𝓤) where
  pub put_if_one : (κs : _) (args : _) → Settles 𝓤 (put_if.clauses w.𝓛 w.mem w.run κs args) (λ e. e.0.now)
  put_if_one κs args =
      let at = args.1.0 in
      let words = only_if args.1.1.0 args.1.1.1.0 in
      told 𝓤 _ _ (λ r x. Given args.0.now at words r x) (λ _. refl) (λ _ _ _. refl)
      (λ r s x y p q. given_one args.0.now at words r s x y p q)

  pub write_if_one : (κs : _) (args : _) → Settles 𝓤 (write_if.clauses w.𝓛 w.mem w.run κs args) (λ e. e.1.0.now)
  write_if_one κs args =
      let at = args.1.1.0 in
      let words = only_if args.1.1.1.0 (words_of args.0) in
      told 𝓤 _ _ (λ r x. Given args.1.0.now at words r x) (λ _. refl) (λ _ _ _. refl)
      (λ r s x y p q. given_one args.1.0.now at words r s x y p q)

  pub box_of_one : (κs : _) (args : _) → Settles 𝓤 (box_of.clauses w.𝓛 w.mem w.run κs args) nothing
  box_of_one κs args = plain 𝓤 _ _ (λ _. refl) (λ _ _ _. refl)
