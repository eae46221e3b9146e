-- `put` meets its contract: all words have a cell, some have, or none.
use Rattle.std.proofs.Common.{◌+◌, ◌-◌, length, arith}
use Rattle.check_words.specs.Writes.{wrote_whole, wrote_part, wrote_past}
use Rattle.check_words.proofs.put.Goals as goal
use Rattle.check_words.proofs.put.Goals.{then-at-out, else-at-out+then-at-out-2, else-at-out+else-at-out-2}

pub returns : goal.returns
returns c =
    let n = c.requires.five in
    let o = c.args.out.now in
    elim c.if-at-out.branch [
      | then-at-out w ↦ rw (w.out-is, w.copy_from_slice.ensures.after) (rw n at (wrote_whole o c.args.at (c.args.at + 5 - c.args.at) c.args.words (omega arith) (omega arith)))
      | else-at-out+then-at-out-2 w ↦
          rw (w.out-is, w.copy_from_slice-then-at-out-2.ensures.after) (rw n at (wrote_part o c.args.at (length o - c.args.at) c.args.words (omega arith) (omega arith)))
      | else-at-out+else-at-out-2 w ↦ rw w.out-is (rw n at (wrote_past o c.args.at c.args.words w.if-at-out-2.false))
    ]
