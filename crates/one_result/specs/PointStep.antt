-- The public call of the crate point_step: its contract settles it.
use Rattle.std.specs.Prelude.{◌≡◌, refl}
use Rattle.std.proofs.Common.{sym, ◌∙◌, ap₂}
use seplogic.Ra.Ura.{Ura}
use Rattle.point_step.specs.Step.{stores, StepIs}
use Rattle.one_result.specs.Law.{World, Settles, pair_of, told}
use Rattle.point_step.specs.contracts.step as step

both : {A B : Type 0} {a d : A} {b e : B} → a ≡ d → b ≡ e → ◌≡◌ {A = A × B} (a, b) (d, e)
both p q = ap₂ (λ a b. (a, b)) p q

module _ {M : Type 1} (𝓤 : Ura M) (w : World 𝓤) where
  -- four stores are lent
  pub step_one : (κs : _) (args : _)
      → Settles 𝓤 (step.clauses w.𝓛 w.mem w.run κs args)
      (pair_of (pair_of (λ e. e.0.now) (λ e. e.1.0.now)) (pair_of (λ e. e.1.1.0.now) (λ e. e.1.1.1.0.now)))
  step_one κs args =
      let s = stores args.0.now args.1.0.now args.1.1.0.now args.1.1.1.0.now in
      let c = args.1.1.1.1.0 in
      let live = args.1.1.1.1.1.0 in
      let held = args.1.1.1.1.1.1.0 in
      let mass = args.1.1.1.1.1.1.1.0 in
      let kind = args.1.1.1.1.1.1.1.1.0 in
      told 𝓤 _ _ (λ r x. StepIs c live held mass kind s r (stores x.0.0 x.0.1 x.1.0 x.1.1)) (λ _. refl) (λ _ _ _. refl)
      (λ r t x y p q. (
        p.taken_is ∙ sym q.taken_is,
        both (both (p.points_are ∙ sym q.points_are) (p.boxes_are ∙ sym q.boxes_are))
            (both (p.walls_are ∙ sym q.walls_are) (p.hints_are ∙ sym q.hints_are)),
      ))
