-- `measures::share` meets its contract: within a rule's share the row is the one that the definition has.
use mathlib.Core.Path.{sym}
use native.Mathlib.Omega.{arith}
use Rattle.measures.specs.Orders.{share_few}
use Rattle.measures.specs.Among.{share_bound}
use Rattle.measures.proofs.Tables.{share_any, share_less}
use Rattle.measures.proofs.share.Goals as goal

pub returns-then-rule-eq0 : goal.returns-then-rule-eq0
returns-then-rule-eq0 c =
    let i = c.args.i in
    let h = rw c.if-rule-eq0.true at c.requires in
    (rw c.if-rule-eq0.true (sym (share_any i h)), omega arith)

pub overflow_mul-result : goal.overflow_mul-result
overflow_mul-result c = let h = share_few c.args.rule in let l = c.requires in omega (arith, h, l)

pub returns : goal.returns
returns c =
    let a = c.args in
    let e = share_less a.rule a.i c.if-rule-eq0.false c.requires in
    let b = share_bound a.rule a.i in
    (sym e, rw e at b)
