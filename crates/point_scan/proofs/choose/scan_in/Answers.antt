-- `point_scan::choose::scan_in` meets its contract: after i turns the choice is that among the first i points.
use Rattle.std.proofs.Common.{◌≡◌, refl, sym, ◌∙◌, arith, add-one, rules}
use Rattle.point_scan.specs.Choose.{scan_by, step_by, scan_found}
use Rattle.point_scan.specs.Walls.{scan_of, hints_of}
use Rattle.point_scan.proofs.choose.scan_in.Goals as goal
use Rattle.point_scan.proofs.choose.scan_in.Goals.{then-takes, else-takes}

pub loop-i-init : goal.loop-i-init
unfolding scan_of scan_by hints_of
loop-i-init c = (refl, refl, refl)

pub takes-requires : goal.takes-requires
unfolding scan_of
takes-requires c =
    let l = c.loop-i in (
      c.requires.0,
      c.requires.1,
      omega arith,
      λ k e. let h = scan_found _ c.args.points.now l.i k (sym l.invariant.1 ∙ e) in omega arith,
      omega arith,
    )

pub loop-i-preserved : goal.loop-i-preserved
unfolding scan_of scan_by step_by hints_of
loop-i-preserved c =
    let l = c.loop-i in
    let t = c.takes.ensures in
    elim c.if-takes.branch [
      | then-takes w ↦ (
        search rules,
        let e = rw l.invariant.1 at (sym t.takes_is ∙ w.if-takes.true) in rw (w.chosen-is, add-one, e),
        rw (t.hints_are, add-one, l.invariant.1, l.invariant.2),
      )
      | else-takes w ↦ (
        search rules,
        let e = rw l.invariant.1 at (sym t.takes_is ∙ w.if-takes.false) in rw (w.chosen-is, add-one, e, l.invariant.1),
        rw (t.hints_are, add-one, l.invariant.1, l.invariant.2),
      )
    ]

pub returns : goal.returns
returns c =
    let e : c.loop-i.i ≡ c.args.live = omega arith in
    record { choice_is = rw e at c.loop-i.invariant.1; hints_are = rw e at c.loop-i.invariant.2 }
