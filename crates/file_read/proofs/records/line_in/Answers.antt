-- `records::line_in` meets its contract: blank past the lines that there can be, from a start that no file has, and past the end, else the record there.
use borrow.Author.Tests.{le-leb, lt-leb, lt-ltb, le-ltb}
use Rattle.file_read.specs.Records.{line_in}
use Rattle.file_read.proofs.records.line_in.Goals as goal

pub returns-then-i-ge-MOST_LINES : goal.returns-then-i-ge-MOST_LINES
unfolding line_in
returns-then-i-ge-MOST_LINES c = rw (le-leb _ _ c.if-i-ge-MOST_LINES.true) c.blank_line.ensures

pub returns-then-start-gt-MOST_BYTES : goal.returns-then-start-gt-MOST_BYTES
unfolding line_in
returns-then-start-gt-MOST_BYTES c = rw (lt-leb _ _ c.if-i-ge-MOST_LINES.false, lt-ltb _ _ c.if-start-gt-MOST_BYTES.true) c.blank_line-then-start-gt-MOST_BYTES.ensures

pub returns-then-f-p : goal.returns-then-f-p
unfolding line_in
returns-then-f-p c =
    let e = c.before.before in
    rw (lt-leb _ _ e.if-i-ge-MOST_LINES.false, le-ltb _ _ e.if-start-gt-MOST_BYTES.false, lt-ltb _ _ c.if-f-p.true) c.blank_line-then-f-p.ensures

pub returns : goal.returns
unfolding line_in
returns c =
    let e = c.before.before in
    rw (lt-leb _ _ e.if-i-ge-MOST_LINES.false, le-ltb _ _ e.if-start-gt-MOST_BYTES.false, le-ltb _ _ c.if-f-p.false) c.line_at.ensures
