-- `next_box` meets its contract, by the tests that led to each return.
use borrow.Author.Tests.{lt-ltb, le-ltb}
use Rattle.plan_boxes.specs.Turns.{next_turn}
use Rattle.plan_boxes.specs.Files.{next_box}
use Rattle.plan_boxes.proofs.next_box.Goals as goal

pub returns-then-u-ge-MOST_KINDS : goal.returns-then-u-ge-MOST_KINDS
unfolding next_box
returns-then-u-ge-MOST_KINDS c = rw (le-ltb _ _ c.if-u-ge-MOST_KINDS.true)

pub returns-then-from : goal.returns-then-from
unfolding next_box next_turn
returns-then-from c = rw (lt-ltb _ _ c.if-u-ge-MOST_KINDS.false, lt-ltb _ _ (rw (c.from.ensures, c.from-2.ensures) at c.if-from.true))

pub returns : goal.returns
unfolding next_box next_turn
returns c = rw (lt-ltb _ _ c.if-u-ge-MOST_KINDS.false, le-ltb _ _ (rw (c.from.ensures, c.from-2.ensures) at c.if-from.false))
