-- `layer_place_items` meets its contract: what is handed out of the lines is the plan that was laid in them.
use native.Mathlib.Nat.{le_refl}
use Rattle.std.proofs.Common.{rules}
use Rattle.domain.specs.Bounds.{most_lines}
use Rattle.plan_sheet.specs.Laid.{Lays}
use Rattle.plan_sheet.specs.Room.{fitting}
use Rattle.layer_plan.specs.Items.{items_in}
use Rattle.plan_laws.specs.Fits.{items_modest}
use Rattle.plan_run.specs.Sound.{packs, items_sound}
use Rattle.plan_run.proofs.layer_place_items.Goals as goal

pub returns : goal.returns
returns c =
    let a = c.args in
    let h = c.run.ensures in
    let k = h.laid in
    let e : Lays (fitting k.shown.now (items_in a.order.now a.records.now a.items.now a.consider)) h.told k.shown.now k.left.now =
    let m = k.met in search rules in
    packs a.order.now _ _ (le_refl most_lines) (items_modest a.order.now a.records.now a.items.now a.consider)
    (items_sound a.order.now a.records.now a.items.now a.consider) _ _ _ _ _ (rw (k.shows, k.leaves) at e) h.given
