-- `sheet::is_among` meets its contract: it knows of each id passed whether it is the one.
use Rattle.std.proofs.Common.{◌≡◌, ◌<◌, ℕ, refl, length-take, arith, add-one, le-leb}
use Rattle.std.proofs.lemmas.Bool.{lt-leb}
use Rattle.std.proofs.lemmas.List.{get_or-take}
use Rattle.lists.specs.Below.{any_below, is_at}
use Rattle.sheet.specs.Sheets.{among}
use Rattle.sheet.proofs.is_among.Goals as goal

pub returns-then-n-gt-MOST_KINDS : goal.returns-then-n-gt-MOST_KINDS
unfolding among
returns-then-n-gt-MOST_KINDS c = rw (lt-leb _ _ c.if-n-gt-MOST_KINDS.true)

pub loop-other-init : goal.loop-other-init
unfolding any_below
loop-other-init c = refl

pub loop-other-preserved : goal.loop-other-preserved
unfolding any_below is_at
loop-other-preserved c =
    let l : c.loop-other.other-index < c.args.n = omega (arith, length-take {A = ℕ}) in
    rw (add-one, get_or-take c.args.n c.args.ids.now c.loop-other.other-index 0 l, c.loop-other.invariant)

pub returns : goal.returns
unfolding among
returns c =
    let e : c.loop-other.other-index ≡ c.args.n = omega (arith, length-take {A = ℕ}) in
    rw (le-leb c.args.n 64 c.if-n-gt-MOST_KINDS.false) (rw e at c.loop-other.invariant)
