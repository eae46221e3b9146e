-- `accept::lines_refusal` meets its contract: it knows of the lines passed whether one is out of range.
use Rattle.std.proofs.Common.{◌≡◌, ◌∙◌, refl, arith, add-one}
use Rattle.lists.specs.Below.{any_below}
use Rattle.file_read.specs.Records.{line_is}
use Rattle.file_accept.specs.Parts.{misplaced_in, lines_by_one}
use Rattle.file_accept.proofs.lines_refusal.Goals as goal

pub loop-i-init : goal.loop-i-init
unfolding any_below
loop-i-init c = refl

pub loop-i-preserved : goal.loop-i-preserved
unfolding any_below misplaced_in
loop-i-preserved c =
    let e = c.line_in-line.ensures ∙ line_is _ _ _ c.requires.0 c.requires.1.0 (omega arith) in
    rw (add-one, ← c.loop-i.invariant) (rw c.is_misplaced-bad.ensures (rw e))

pub returns : goal.returns
returns c =
    let e : c.loop-i.i ≡ c.args.n = omega arith in
    c.refuse.ensures ∙ rw (rw e at c.loop-i.invariant) (rw (lines_by_one _ _))
