-- `point_run::lay_each` meets its contract: after i turns the stores are those of the first i boxes, and the lines are theirs.
use Prim.Native.Nat.{ℕ, ◌<◌}
use mathlib.Core.Path.{◌≡◌, refl, sym, ◌∙◌, ap}
use mathlib.Core.Bool.{false}
use mathlib.Core.List.{List}
use native.Mathlib.Omega.{arith}
use lib.ListN.{length, length-set, get_or, take, replicate}
use Rattle.std.proofs.lemmas.List.{get_or-take, length-take-le, length-replicate}
use Rattle.domain.specs.Bounds.{most_kinds}
use Rattle.measures.specs.Faults.{kind_fault}
use Rattle.sheet.specs.Sheets.{kind_at}
use Rattle.file_read.specs.Reading.{sheet_of}
use Rattle.file_read.specs.Records.{kind_in, kind_is, many_is}
use Rattle.plan_boxes.specs.declared.Instance.{Instance}
use Rattle.plan_boxes.specs.Listing.{no_instance}
use Rattle.floats.specs.Ops.{nowhere}
use Rattle.point_state.specs.Fresh.{blank_spot}
use Rattle.point_scan.specs.Walls.{blank_walls}
use Rattle.point_step.specs.Step.{Stores, stores}
use Rattle.point_step.specs.Wide.{Short}
use Rattle.point_stow.specs.Stow.{listed}
use Rattle.point_run.specs.Boxes.{Ready, boxes_by}
use Rattle.point_run.specs.Lay.{stores_short, blank_start, holds_skip, still_short, next_short}
use Rattle.point_run.proofs.lay_each.Goals as goal
use Rattle.point_run.proofs.lay_each.Goals.{In-loop-p}

-- ---- what a turn has in hand

module _ (f : List ℕ) (items : List Instance) (places : List ℕ) (n i : ℕ) (r : Ready f items places n) (h : i < length (take n places)) where
  below : i < n
  below = rw (length-take-le n places r.places_in) at h

  abbrev item : Instance
  item = get_or (boxes_by (sheet_of f)) i no_instance

  abbrev read : Instance
  read = get_or items (get_or (take n places) i 0) no_instance

  read_is : read ≡ item
  read_is = rw (get_or-take n places i 0 below) (r.item_at i below)

  -- the kind that is read is the box's
  kind_read : kind_in f read.kind ≡ kind_at (sheet_of f) item.kind
  kind_read = rw read_is (kind_is f item.kind r.can_read (rw many_is (r.kind_in_lem i below)))

  right : kind_fault (kind_at (sheet_of f) item.kind) false ≡ 0
  right = (listed (sheet_of f) (boxes_by (sheet_of f)) n r.right r.kind_in_lem).kind_right i below

  kind_few : item.kind < most_kinds
  kind_few = (listed (sheet_of f) (boxes_by (sheet_of f)) n r.right r.kind_in_lem).kind_in_lem i below

pub loop-p-init : goal.loop-p-init
loop-p-init g c =
    let r = c.requires.1 in
    let l = r.points_room in (
      omega arith,
      length-set (replicate g.row.POINTS nowhere) 0 _ ∙ length-replicate g.row.POINTS nowhere,
      length-replicate g.row.BOXES blank_spot,
      length-replicate g.row.BOXES blank_walls,
      length-replicate {A = ℕ} g.row.POINTS 0,
      blank_start _ _ _ g.row.BOXES g.row.POINTS _ r.boxes_few r.points_few (omega (arith, l)),
    )

-- ---- the stores have room for one box more

abbrev lent : (g : _) (c : In-loop-p g) → Stores
lent g c = let l = c.loop-p in stores l.points l.boxes l.walls l.hints

short_at : (g : _) (c : In-loop-p g) → Short c.loop-p.live c.loop-p.held (lent g c)
short_at g c =
    let l = c.loop-p in
    let v = l.invariant in
    let r = c.requires.0 in
    let b = below _ _ _ _ _ r c.loop-p-test.true in
    let h = v.0 in
    stores_short _ _ _ l.live l.held (lent g c) c.requires.1 r.few (omega (arith, b, h)) v.5.steady.few v.1 v.2 v.3 v.4

-- a box like one that found no place
pub loop-p-preserved-then-u-last : goal.loop-p-preserved-then-u-last
loop-p-preserved-then-u-last g c =
    let l = c.loop-p in
    let v = l.invariant in
    let h = v.0 in
    let r = c.requires.0 in
    let t = c.loop-p-test.true in
    let s = short_at g (goal.at.loop-p-preserved-then-u-last g c).In-loop-p in
    let e = sym (ap (λ (u : Instance). u.kind) (read_is _ _ _ _ _ r t)) ∙ c.if-u-last.true in
    let k : l.last < most_kinds = rw (← e) (kind_few _ _ _ _ _ r t) in (
      omega (arith, h),
      v.1,
      v.2,
      v.3,
      v.4,
      holds_skip _ _ _ l.p-index _ _ _ _ _ _ l.hints _ _ _ _ v.5 s.room.held_in s.hinted e k,
    )

-- the box does not stand
pub loop-p-preserved-in_default : goal.loop-p-preserved-in_default
loop-p-preserved-in_default g c =
    let l = c.loop-p in
    let v = l.invariant in
    let h = v.0 in
    let r = c.requires.0 in
    let t = c.loop-p-test.true in
    let s = short_at g (goal.at.loop-p-preserved-in_default g c).In-loop-p in
    let i = read_is _ _ _ _ _ r t in (
      omega (arith, h),
      c.step.auto.points ∙ v.1,
      c.step.auto.boxes ∙ v.2,
      c.step.auto.walls ∙ v.3,
      c.step.auto.hints ∙ v.4,
      still_short _ _ _ l.p-index _ _ _ _ _ _ l.hints _ _ _ _ v.5 s _ (c.kind_in-kind.ensures ∙ kind_read _ _ _ _ _ r t) (right _ _ _ _ _ r t) _
          (rw c.in_default.is at c.step.ensures) _ (ap (λ (u : Instance). u.kind) i),
    )

-- it stands
pub loop-p-preserved : goal.loop-p-preserved
loop-p-preserved g c =
    let l = c.loop-p in
    let v = l.invariant in
    let h = v.0 in
    let r = c.requires.0 in
    let t = c.loop-p-test.true in
    let s = short_at g (goal.at.loop-p-preserved g c).In-loop-p in
    let i = read_is _ _ _ _ _ r t in (
      omega (arith, h),
      c.step.auto.points ∙ v.1,
      c.step.auto.boxes ∙ v.2,
      c.step.auto.walls ∙ v.3,
      c.step.auto.hints ∙ v.4,
      next_short _ _ _ l.p-index _ _ _ _ _ _ l.hints _ l.volume _ _ v.5 s _ (c.kind_in-kind.ensures ∙ kind_read _ _ _ _ _ r t) (right _ _ _ _ _ r t)
          _ _ (rw c.in-Some.is at c.step.ensures) c.step.auto.boxes _ _ _ _ (ap (λ (u : Instance). u.instance) i)
          refl (rw (c.mass_with-mass.ensures, c.mass_of.ensures)) (rw c.measure-volume.ensures),
    )
