-- `seed_of` meets its contract: a turn of the loop is a turn of the definition.
use Rattle.std.proofs.Common.{refl, ◌∙◌, add-one, arith}
use Rattle.file_read.specs.Records.{line_is}
use Rattle.layer_seeds.specs.Seeds.{seed_of}
use Rattle.layer_seeds.proofs.seed_of.Goals as goal
use Rattle.layer_seeds.proofs.seed_of.Goals.{then-line-id, else-line-id}

pub loop-i-init : goal.loop-i-init
unfolding seed_of
loop-i-init c = refl

pub loop-i-preserved : goal.loop-i-preserved
unfolding seed_of
loop-i-preserved c =
    let e = c.line_in-line.ensures ∙ line_is _ _ _ c.requires.0 c.requires.1.0 (let n = c.requires.1.1 in omega arith) in
    rw (add-one, ← e, ← c.loop-i.invariant)
    (elim c.if-line-id.branch [ then-line-id w ↦ rw (w.seed-is, w.if-line-id.true) | else-line-id w ↦ rw (w.seed-is, w.if-line-id.false) ])
