-- `run_ep_packing` meets its contract: what is handed out of the lines is the plan that was laid in them.
use native.Mathlib.Nat.{le_refl}
use Rattle.domain.specs.Bounds.{most_lines}
use Rattle.std.proofs.Common.{rules}
use Rattle.plan_sheet.specs.Laid.{plan_in, Lays}
use Rattle.plan_sheet.specs.Room.{fitting}
use Rattle.point_run.specs.Runs.{ep_packing_of}
use Rattle.plan_laws.specs.Fits.{points_modest}
use Rattle.plan_run.specs.Sound.{packs, points_sound}
use Rattle.plan_run.proofs.run_ep_packing.Goals as goal

pub returns : goal.returns
returns c =
    let a = c.args in
    let h = c.run.ensures in
    let k = h.laid in
    let e : Lays (fitting k.shown.now (plan_in ep_packing_of a.order.now a.consider)) h.told k.shown.now k.left.now = let m = k.met in search rules in
    packs a.order.now _ _ (le_refl most_lines) (points_modest a.order.now a.consider) (points_sound a.order.now a.consider) _ _ _ _ _ (rw (k.shows, k.leaves) at e) h.given
