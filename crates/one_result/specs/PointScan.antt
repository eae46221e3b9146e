-- The public calls of the crate point_scan: each contract settles its call.
use Rattle.std.specs.Prelude.{◌≡◌, refl}
use Rattle.std.proofs.Common.{sym, ◌∙◌}
use seplogic.Ra.Ura.{Ura}
use Rattle.one_result.specs.Law.{World, Settles, nothing, plain, told}
use Rattle.point_scan.specs.Walls.{walls_in, ScannedIs}
use Rattle.point_scan.specs.contracts.scan as scan
use Rattle.point_scan.specs.contracts.best as best
use Rattle.point_scan.specs.contracts.put_walls as put-walls

module _ {M : Type 1} (𝓤 : Ura M) (w : World 𝓤) where
  pub best_one : (κs : _) (args : _) → Settles 𝓤 (best.clauses w.𝓛 w.mem w.run κs args) nothing
  best_one κs args = plain 𝓤 _ _ (λ _. refl) (λ _ _ _. refl)

  -- the hints are lent
  pub scan_one : (κs : _) (args : _)
      → Settles 𝓤 (scan.clauses w.𝓛 w.mem w.run κs args) (λ e. e.1.1.1.1.1.1.0.now)
  scan_one κs args =
      let live = args.1.0 in
      let walls = args.1.1.0.now in
      let held = args.1.1.1.0 in
      let room = args.1.1.1.1.0 in
      let size = args.1.1.1.1.1.0 in
      let hints = args.1.1.1.1.1.1.0.now in
      told 𝓤 _ _ (λ r x. ScannedIs room walls held size args.0.now live hints r x) (λ _. refl) (λ _ _ _. refl)
      (λ r s x y p q. (p.choice_is ∙ sym q.choice_is, p.hints_are ∙ sym q.hints_are))

  pub put_walls_one : (κs : _) (args : _) → Settles 𝓤 (put-walls.clauses w.𝓛 w.mem w.run κs args) (λ e. e.0.now)
  put_walls_one κs args =
      told 𝓤 _ _ (λ r x. x ≡ walls_in args.0.now args.1.0.now args.1.1.0 args.1.1.1.0)
      (λ _. refl) (λ _ _ _. refl) (λ r s x y p q. (refl, p ∙ sym q))
