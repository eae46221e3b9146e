-- `plan_sheet::hand::put_lines` meets its contract: each turn stores one line behind the others.
use mathlib.Core.Path.{◌≡◌}
use lib.ListN.{length}
use Rattle.lists.specs.Rows.{wrote}
use Rattle.plan_sheet.specs.Hand.{line_words}
use Rattle.plan_sheet.proofs.hand.put_lines.Given as goal

abbrev pub invariant-loop-i : goal.invariant-loop-i
invariant-loop-i l = (length l.out ≡ length l.initial.out) × (l.out ≡ wrote (line_words l.lines) 6 l.i l.initial.out)
