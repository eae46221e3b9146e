-- `volume_of` meets its contract: after i turns the sum is over the first i lines.
use Rattle.std.proofs.Common.{◌≡◌, ◌≤◌, refl, ◌∙◌, add-one, arith}
use Rattle.lists.specs.Below.{sum_below}
use Rattle.file_read.specs.Reading.{sheet_of}
use Rattle.file_read.specs.Records.{bounds, line_is}
use Rattle.fill_thousand.specs.Fill.{most_solid, line_volume}
use Rattle.fill_thousand.specs.Known.{line_most}
use Rattle.fill_thousand.specs.Tabled.{small, volume_same}
use Rattle.fill_thousand.proofs.volume_of.Goals as goal
use Rattle.fill_thousand.proofs.volume_of.Goals.{After-line_volume-t}

pub loop-i-init : goal.loop-i-init
unfolding sum_below
loop-i-init c = record { most = omega arith; sum_is = refl }

pub line_volume-t-requires : goal.line_volume-t-requires
line_volume-t-requires c = let t = c.requires.table in record { few = t.few; small = small _ _ _ _ t }

-- the volume of line i, which is at most one kind's
volume_is : (c : After-line_volume-t)
    → c.line_volume-t.result
    ≡ line_volume (sheet_of c.args.f.now).kinds c.args.m
    (sheet_of c.args.f.now).lines c.loop-i.i
unfolding line_volume
volume_is c =
    let e = c.line_in-line.ensures ∙ line_is _ _ _ c.requires.can_read c.requires.start_is (omega arith) in
    c.line_volume-t.ensures ∙ volume_same _ _ _ _ _ c.requires.table ∙ rw e

small_line : (c : After-line_volume-t) → c.line_volume-t.result ≤ most_solid
small_line c =
    rw (volume_is c, c.requires.kinds_are) (line_most _ c.requires.sound _)

pub overflow_add-t : goal.overflow_add-t
overflow_add-t c =
    let b = bounds _ c.requires.can_read in
    let h = small_line (goal.at.overflow_add-t c).After-line_volume-t in
    omega arith

pub loop-i-preserved : goal.loop-i-preserved
unfolding sum_below line_volume
loop-i-preserved c =
    let w = (goal.at.loop-i-preserved c).After-line_volume-t in
    let h = small_line w in
    record { most = omega arith; sum_is = rw (add-one, ← c.loop-i.invariant.sum_is) (rw (volume_is w)) }

pub returns : goal.returns
returns c =
    let b = bounds _ c.requires.can_read in
    let e : c.loop-i.i ≡ c.args.n = omega arith in
    record { value = rw e at c.loop-i.invariant.sum_is; most = omega arith }
