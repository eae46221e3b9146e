-- `point_order::falling` meets its contract: each turn puts the next box in.
use Prim.Native.Nat.{ℕ, ◌≤◌, ◌<◌}
use mathlib.Core.Path.{◌≡◌, refl, ◌∙◌}
use native.Mathlib.Omega.{arith}
use native.Mathlib.Numerals.{add-one}
use borrow.Author.Rules.{rules}
use mathlib.Core.List.{List}
use lib.ListN.{length, get_or}
use lib.Ieee.{Float, nan}
use Rattle.point_order.specs.Order.{falling_of, sortable}
use Rattle.point_order.specs.Insert.{Places, opened_rest, rest_next, places_of, spot_few, falls}
use Rattle.point_order.specs.Begin.{NoneSmaller, begin_none, begin_few, last_none, last_next}
use Rattle.point_order.proofs.falling.Goals as goal
use Rattle.point_order.proofs.falling.Goals.{After-begin-from, After-spot-last, In-loop-t}

pub loop-t-init : goal.loop-t-init
unfolding falling_of
loop-t-init c = (refl, refl, refl, last_none _ _)

-- ---- what a turn has in hand

abbrev vol : List Float → ℕ → Float
vol volumes u = get_or volumes u nan

volume_in : (c : In-loop-t) → c.loop-t.t < length c.args.volumes.now
volume_in c = omega arith

place_in : (c : In-loop-t) → c.loop-t.t < length c.loop-t.places
place_in c = omega arith

places_at : (c : In-loop-t) → Places c.loop-t.places c.loop-t.t (length c.args.volumes.now)
places_at c =
    let l = c.loop-t in
    let b = place_in c in
    let v = volume_in c in
    places_of (vol c.args.volumes.now) l.places l.t (omega (arith, b)) l.invariant.0 (length c.args.volumes.now) (omega (arith, v))

-- the place found is among those there are
spot_in : (c : After-spot-last) → c.loop-t.t < length c.loop-t.places → c.spot-last.result ≤ c.loop-t.t
spot_in c b =
    let l = c.loop-t in
    rw c.spot-last.ensures (spot_few (vol c.args.volumes.now) l.places l.t (omega (arith, b)) l.invariant.0)

pub loop-t-preserved : goal.loop-t-preserved
loop-t-preserved c =
    let g = goal.at.loop-t-preserved c in
    let vols = vol c.args.volumes.now in
    let l = c.loop-t in
    let b = place_in g.In-loop-t in
    let s = spot_in g.After-spot-last b in (
      rw (add-one l.t, c.put_in.ensures, c.spot-last.ensures) (falls vols l.places l.t (omega (arith, b)) l.invariant.0 b),
      search rules,
      rw (add-one l.t, c.put_in.ensures) (opened_rest l.places c.spot-last.result l.t s b ∙ rest_next _ _ l.t l.invariant.2),
      rw (c.put_in.ensures, c.spot-last.ensures) (last_next vols l.places l.t b (rw c.spot-last.ensures at s)),
    )

pub returns : goal.returns
returns c =
    let a = c.args in
    let l = c.loop-t in
    let e : l.t ≡ sortable a.n a.volumes.now a.places.now = omega arith in
    record { first = rw e at l.invariant.0; rest = rw e at l.invariant.2 }

-- the search begins behind boxes that are not smaller
begun : (c : After-begin-from) → (c.begin-from.result ≤ c.loop-t.t)
    × NoneSmaller (vol c.args.volumes.now) (vol c.args.volumes.now c.loop-t.t) c.loop-t.places c.begin-from.result
begun c =
    let vols = vol c.args.volumes.now in
    let l = c.loop-t in
    let r = l.invariant.3 in
    rw c.begin-from.ensures (begin_few vols l.places l.t l.last r, begin_none vols l.places l.t l.last r)

pub begin-from-requires : goal.begin-from-requires
begin-from-requires c = (volume_in c, c.loop-t.invariant.3.few)

pub bounds-volumes-t : goal.bounds-volumes-t
bounds-volumes-t c = volume_in (goal.at.bounds-volumes-t c).In-loop-t

pub spot-last-requires : goal.spot-last-requires
spot-last-requires c =
    let h = goal.at.spot-last-requires c in
    let g = begun h.After-begin-from in (places_at h.In-loop-t, g.0, g.1)

pub put_in-requires : goal.put_in-requires
put_in-requires c =
    let h = goal.at.put_in-requires c in
    let b = place_in h.In-loop-t in (spot_in h.After-spot-last b, b)
