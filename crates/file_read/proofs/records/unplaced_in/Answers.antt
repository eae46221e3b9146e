-- `records::unplaced_in` meets its contract: 0 past the ids that there can be, from a start that no file has, and past the end, else the id there.
use borrow.Author.Tests.{le-leb, lt-leb, lt-ltb, le-ltb}
use Rattle.file_read.specs.Records.{unplaced_in}
use Rattle.file_read.proofs.records.unplaced_in.Goals as goal

pub returns-then-i-ge-MOST_UNPLACED : goal.returns-then-i-ge-MOST_UNPLACED
unfolding unplaced_in
returns-then-i-ge-MOST_UNPLACED c = rw (le-leb _ _ c.if-i-ge-MOST_UNPLACED.true)

pub returns-then-start-gt-MOST_BYTES : goal.returns-then-start-gt-MOST_BYTES
unfolding unplaced_in
returns-then-start-gt-MOST_BYTES c = rw (lt-leb _ _ c.if-i-ge-MOST_UNPLACED.false, lt-ltb _ _ c.if-start-gt-MOST_BYTES.true)

pub returns-then-f-p : goal.returns-then-f-p
unfolding unplaced_in
returns-then-f-p c =
    let e = c.before in
    rw (lt-leb _ _ e.if-i-ge-MOST_UNPLACED.false, le-ltb _ _ e.if-start-gt-MOST_BYTES.false, lt-ltb _ _ c.if-f-p.true)

pub returns : goal.returns
unfolding unplaced_in
returns c =
    let e = c.before.before in
    rw (lt-leb _ _ e.if-i-ge-MOST_UNPLACED.false, le-ltb _ _ e.if-start-gt-MOST_BYTES.false, le-ltb _ _ c.if-f-p.false) c.u32_at.ensures
