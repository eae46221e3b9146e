-- `line_findings` meets its contract: the lines, then their pairs.
use mathlib.Core.Path.{◌≡◌, refl, ap, ◌∙◌}
use Rattle.sheet.specs.declared.Counts.{Counts}
use native.Mathlib.Omega.{arith}
use Rattle.check_words.specs.Writes.{wrote_then, wrote_length}
use Rattle.check_list.specs.Held.{held, rule_of, Wide, held_wide}
use Rattle.check_list.proofs.Found.{lines_in}
use Rattle.check_list.proofs.line_findings.Goals as goal
use Rattle.check_list.proofs.line_findings.Goals.{After-rule_of-rule}

-- the columns have a cell for each line that counts
wide : (c : After-rule_of-rule)
    → let a = c.args in Wide (held a.counts a.which.now a.again.now a.boxes.now).lines a.which.now a.again.now a.boxes.now
wide c = let a = c.args in held_wide a.counts a.which.now a.again.now a.boxes.now

-- what the lines are judged by
ruled : (c : After-rule_of-rule)
    → let a = c.args in c.rule_of-rule.result ≡ rule_of (held a.counts a.which.now a.again.now a.boxes.now) a.c
ruled c = c.rule_of-rule.ensures ∙ ap (λ (m : Counts). rule_of m c.args.c) c.held.ensures

pub put_lines-p-requires : goal.put_lines-p-requires
put_lines-p-requires c = let r = c.before in rw (ruled (goal.at.put_lines-p-requires c).After-rule_of-rule) (wide (goal.at.put_lines-p-requires c).After-rule_of-rule, refl)

pub put_pairs-requires : goal.put_pairs-requires
put_pairs-requires c =
    let p = c.before.before.before in
    let r = p.before.before in
    let e = ruled (goal.at.put_pairs-requires c).After-rule_of-rule in
    let l = rw e at p.put_lines-p.ensures.few in
    let w = wide (goal.at.put_pairs-requires c).After-rule_of-rule in
    rw e (record { few = w.few; which_long = w.which_long; boxes_long = w.boxes_long; room = omega (arith, w.few); slack = refl })

pub shape_of-out : goal.shape_of-out
shape_of-out c =
    let q = c.before.before in
    let p = q.before.before.before.before in
    wrote_length q.put_pairs.ensures.words ∙ wrote_length p.put_lines-p.ensures.words

pub returns : goal.returns
returns c =
    let q = c.before.before in
    let p = q.before.before.before.before in
    let r = p.before.before in
    let e = ruled (goal.at.returns c).After-rule_of-rule in
    let l = rw e at p.put_lines-p.ensures in
    let k = rw e at q.put_pairs.ensures in
    let a = r.args in
    let m = held a.counts a.which.now a.again.now a.boxes.now in
    let both = lines_in a.f.now a.start a.again.now (rule_of m a.c) a.which.now a.boxes.now in
    record { words = rw both at (wrote_then l.words k.words); few = omega (arith, l.few, k.few) }
