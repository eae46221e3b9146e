-- RULES: Lent memory. One contract allows one result and one content of what is lent: what that says of its own clauses, and the laws that show it.
use Rattle.std.specs.Prelude.{◌≡◌, refl}
use Rattle.std.proofs.Common.{sym, ◌∙◌, ap₂}
use seplogic.Ra.Ura.{Ura}
use base.Logic.{SProp, ent, sep, emp, via, fst∗, snd∗}
use prog.Memory.{Memory}
use prog.Routine.{Routine}
use types.Logic.{Logic}
use contract.Monad.{Fun, conj, fact, fact_use, fact_i}
use contract.Conj.{conj_l, conj_r, conj_mono}
use contract.Lifetimes.{Lfts}
use denote.Triple.Entry.{Res}
use denote.Triple.Clauses.{Ended, ClausesAt, AtExit}

-- what the clauses of a contract are stated over: heap, ghost atoms, memory, and what a called routine does
pub record World {M : Type 1} (𝓤 : Ura M) : Type 2 where
  pub 𝓛 : Logic 𝓤
  pub mem : Memory → SProp 𝓤
  pub run : Routine → Fun 𝓤

-- nothing is lent mutably
abbrev pub nothing : {A : Type 0} → A → Unit {0}
nothing _ = tt

-- two places are lent
abbrev pub pair_of : {A X Y : Type 0} → (A → X) → (A → Y) → A → X × Y
pair_of f g a = (f a, g a)

module _ {M : Type 1} (𝓤 : Ura M) {T : Ended} {κs : Lfts T.signature.lifetimes} (c : ClausesAt 𝓤 T κs) where
  -- A contract at given arguments settles its call: it asks nothing of the caller (`free`), and two ends that it allows have one result and
  -- leave one value in what was lent (`one`). `seen` reads the lent values off the parameters at exit.
  pub record Settles {X : Type 0} (seen : AtExit T κs → X) : Type 2 where
    pub free : (g : c.ghost) → c.requires g ≡ emp 𝓤
    pub one : (g : c.ghost) (r s : Res T.signature κs) (d e : AtExit T κs)
        → ent 𝓤 (conj 𝓤 (c.ensures g r d) (c.ensures g s e)) (fact 𝓤 ((r ≡ s) × (seen d ≡ seen e)))

  -- two facts that are together a third
  agree : (φ ψ χ : Type 0) → (φ → ψ → χ) → ent 𝓤 (conj 𝓤 (fact 𝓤 φ) (fact 𝓤 ψ)) (fact 𝓤 χ)
  agree φ ψ χ f =
      fact_use 𝓤 φ (conj_l 𝓤 (fact 𝓤 φ) (fact 𝓤 ψ))
      (λ x. fact_use 𝓤 ψ (conj_r 𝓤 (fact 𝓤 φ) (fact 𝓤 ψ)) (λ y. fact_i 𝓤 χ _ (f x y)))

  -- the contract asks nothing, and says P of the result and of what is lent
  abbrev Free : Type 2
  Free = (g : c.ghost) → c.requires g ≡ emp 𝓤

  abbrev Says : {X : Type 0} → (AtExit T κs → X) → (Res T.signature κs → X → Type 0) → Type 2
  Says seen P = (g : c.ghost) (r : Res T.signature κs) (e : AtExit T κs) → c.ensures g r e ≡ fact 𝓤 (P r (seen e))

  -- .. where P holds of one result and one value
  pub told : {X : Type 0} (seen : AtExit T κs → X) (P : Res T.signature κs → X → Type 0) → Free → Says seen P
      → ((r s : Res T.signature κs) (x y : X) → P r x → P s y → (r ≡ s) × (x ≡ y)) → Settles seen
  told seen P free says only = record {
    free = free;
    one = λ g r s d e. rw (says g r d, says g s e) (agree _ _ _ (λ p q. only r s (seen d) (seen e) p q));
  }

  -- it says what the result is
  pub plain : (v : Res T.signature κs) → Free → Says nothing (λ r _. r ≡ v) → Settles nothing
  plain v free says = told nothing (λ r _. r ≡ v) free says (λ r s _ _ p q. (p ∙ sym q, refl))

  -- .. and a bound on it beside
  pub bounded : (v : Res T.signature κs) (B : Res T.signature κs → Type 0) → Free → Says nothing (λ r _. (r ≡ v) × B r) → Settles nothing
  bounded v B free says = told nothing (λ r _. (r ≡ v) × B r) free says (λ r s _ _ p q. (p.0 ∙ sym q.0, refl))

  -- .. and what is in the lent cells afterwards
  pub lent : {X : Type 0} (seen : AtExit T κs → X) (v : Res T.signature κs) (w : X) → Free → Says seen (λ r x. (r ≡ v) × (x ≡ w)) → Settles seen
  lent seen v w free says = told seen (λ r x. (r ≡ v) × (x ≡ w)) free says (λ r s x y p q. (p.0 ∙ sym q.0, p.1 ∙ sym q.1))

  -- .. in two places
  pub lent_two : {X Y : Type 0} (seen : AtExit T κs → X) (also : AtExit T κs → Y) (v : Res T.signature κs) (w : X) (u : Y) → Free
      → Says (pair_of seen also) (λ r x. (r ≡ v) × (x.0 ≡ w) × (x.1 ≡ u)) → Settles (pair_of seen also)
  lent_two seen also v w u free says =
      told (pair_of seen also) (λ r x. (r ≡ v) × (x.0 ≡ w) × (x.1 ≡ u)) free says
      (λ r s x y p q. (p.0 ∙ sym q.0, ap₂ (λ a b. (a, b)) (p.1 ∙ sym q.1) (p.2 ∙ sym q.2)))

  -- two facts that are stated side by side
  beside : (φ ψ : Type 0) → ent 𝓤 (sep 𝓤 (fact 𝓤 φ) (fact 𝓤 ψ)) (fact 𝓤 (φ × ψ))
  beside φ ψ =
      fact_use 𝓤 φ (fst∗ 𝓤 (fact 𝓤 φ) (fact 𝓤 ψ))
      (λ x. fact_use 𝓤 ψ (snd∗ 𝓤 (fact 𝓤 φ) (fact 𝓤 ψ)) (λ y. fact_i 𝓤 (φ × ψ) _ (x, y)))

  -- .. of the result in one clause, and of the lent cells in another
  pub lent_apart : {X : Type 0} (seen : AtExit T κs → X) (v : Res T.signature κs) (w : X) → Free
      → ((g : c.ghost) (r : Res T.signature κs) (e : AtExit T κs) → c.ensures g r e ≡ sep 𝓤 (fact 𝓤 (r ≡ v)) (fact 𝓤 (seen e ≡ w)))
      → Settles seen
  lent_apart seen v w free says = record {
    free = free;
    one = λ g r s d e.
        rw (says g r d, says g s e)
        (via 𝓤 _ (conj_mono 𝓤 (beside (r ≡ v) (seen d ≡ w)) (beside (s ≡ v) (seen e ≡ w)))
        (agree _ _ _ (λ p q. (p.0 ∙ sym q.0, p.1 ∙ sym q.1))));
  }
