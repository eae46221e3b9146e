-- `check_root::hint` meets its contract: the operations are the definition's own.
use mathlib.Core.Path.{ap, ◌∙◌}
use Rattle.check_root.specs.Hint.{start, hint_from, hint_of}
use Rattle.check_root.proofs.hint.Goals as goal

pub returns : goal.returns
unfolding hint_of
returns c =
    let o = c.before in
    let b = o.before in
    c.bits_of.ensures ∙ ap (hint_from b.args.x) (o.of_bits-y.ensures ∙ ap start b.bits_of-b.ensures)
