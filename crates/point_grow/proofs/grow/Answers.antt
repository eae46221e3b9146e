-- `point_grow::grow` meets its contract: three times one point more where it is kept.
use native.Mathlib.Omega.{arith}
use Rattle.point_grow.specs.Grow.{count_with, count_with_lem, with_long}
use Rattle.point_grow.proofs.grow.Goals as goal

pub add-two-requires : goal.add-two-requires
add-two-requires c =
    let s = c.args in
    let b = count_with_lem s.new.alongx s.live in
    rw (c.add-one.ensures.live_is, c.add-one.ensures.points_are, with_long s.new.alongx s.points.now s.live _) (omega arith)

pub add-requires : goal.add-requires
add-requires c =
    let s = c.args in
    let d = count_with_lem s.new.alongx s.live in
    let e = count_with_lem s.new.alongy (count_with s.new.alongx s.live) in
    rw (c.add-two.ensures.points_are, with_long s.new.alongy _ _ _, c.add-two.ensures.live_is, c.add-one.ensures.live_is, c.add-one.ensures.points_are)
    (rw (with_long s.new.alongx s.points.now s.live _) (omega arith))

pub returns : goal.returns
returns c =
    record {
      live_is = rw (c.add.ensures.live_is, c.add-two.ensures.live_is, c.add-one.ensures.live_is);
      points_are =
          rw (c.add.ensures.points_are, c.add-two.ensures.points_are, c.add-two.ensures.live_is, c.add-one.ensures.points_are, c.add-one.ensures.live_is);
    }
