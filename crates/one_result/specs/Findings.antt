-- The public calls of the crate check_list: each contract settles its call.
use Rattle.std.specs.Prelude.{◌≡◌, refl, Bool, true, false, List, ℕ, ◌+◌, ltb}
use Rattle.std.proofs.Common.{ltb-true, ltb-false}
use seplogic.Ra.Ura.{Ura}
use Rattle.check_list.specs.View.{fair}
use Rattle.check_list.specs.Held.{held, kinds_in, LinesRan, Followed, most_line_words}
use Rattle.one_result.specs.Law.{World, Settles, told}
use Rattle.one_result.specs.Cells.{wrote_one}
use Rattle.check_list.specs.contracts.line_findings as line-findings
use Rattle.check_list.specs.contracts.kind_findings as kind-findings

-- behind the words of the lines the words are written, past them none
followed_one : (o : List ℕ) (at most : ℕ) (ws : List ℕ) (r s : ℕ) (x y : List ℕ) → Followed o at most ws r x → Followed o at most ws s y → (r ≡ s) × (x ≡ y)
followed_one o at most ws r s x y p q = go (ltb most_line_words at) refl
  where
    go : (b : Bool) → ltb most_line_words at ≡ b → (r ≡ s) × (x ≡ y)
    go true e = let h = ltb-true most_line_words at e in wrote_one (p.past h) (q.past h)
    go false e = let h = ltb-false most_line_words at e in wrote_one (p.within h).words (q.within h).words

module _ {M : Type 1} (𝓤 : Ura M) (w : World 𝓤) where
  pub line_findings_one : (κs : _) (args : _) → Settles 𝓤 (line-findings.clauses w.𝓛 w.mem w.run κs args) (λ e. e.0.now)
  line_findings_one κs args =
      let f = args.1.0.now in
      let start = args.1.1.0 in
      let counts = args.1.1.1.0 in
      let c = args.1.1.1.1.0 in
      let v = args.1.1.1.1.1 in
      let m = held counts v.0.now v.1.0.now v.1.1.0.now in
      told 𝓤 _ _ (λ r o. LinesRan f start m c v.0.now v.1.0.now v.1.1.0.now args.0.now r o)
      (λ _. refl) (λ _ _ _. refl)
      (λ r s a b p q. wrote_one p.words q.words)

  pub kind_findings_one : (κs : _) (args : _) → Settles 𝓤 (kind-findings.clauses w.𝓛 w.mem w.run κs args) (λ e. e.0.now)
  kind_findings_one κs args =
      let at = args.1.0 in
      let counts = args.1.1.0 in
      let c = args.1.1.1.0 in
      let mass = args.1.1.1.1.0 in
      let v = args.1.1.1.1.1 in
      let most = (fair counts).kinds + 1 in
      let words = kinds_in (fair counts).kinds c mass v.0.now v.1.0.now v.1.1.0.now in
      told 𝓤 _ _ (λ r o. Followed args.0.now at most words r o) (λ _. refl) (λ _ _ _. refl)
      (λ r s a b p q. followed_one args.0.now at most words r s a b p q)
