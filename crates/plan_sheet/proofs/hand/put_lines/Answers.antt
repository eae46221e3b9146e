-- `plan_sheet::hand::put_lines` meets its contract: each turn stores one line behind the others.
use Prim.Native.Nat.{suc}
use mathlib.Core.Path.{◌≡◌, refl, sym, ◌∙◌}
use native.Mathlib.Omega.{arith}
use native.Mathlib.Numerals.{add-one}
use Rattle.lists.specs.Rows.{wrote, wrote_none, wrote_length, wrote_more}
use Rattle.plan_sheet.specs.Hand.{line_words, six}
use Rattle.plan_sheet.proofs.hand.put_lines.Goals as goal

pub loop-i-init : goal.loop-i-init
loop-i-init c = (refl, sym (wrote_none _ _ _))

pub loop-i-preserved : goal.loop-i-preserved
unfolding line_words
loop-i-preserved c =
    let l = c.loop-i in
    let a = c.args in
    let row = line_words a.lines.now in
    let e : c.put_line.new.out ≡ wrote row 6 (suc l.i) a.out.now =
    c.put_line.ensures ∙ rw l.invariant.1 (wrote_more row 6 (six a.lines.now) l.i a.out.now (omega arith)) in
    let k = wrote_length row 6 (six a.lines.now) (suc l.i) a.out.now (omega arith) in
    (rw e k, rw add-one e)
