-- `records::kind_in` meets its contract: blank past the kinds that there can be and past the end, else the record there.
use borrow.Author.Tests.{le-leb, lt-leb, lt-ltb, le-ltb}
use Rattle.file_read.specs.Records.{kind_in}
use Rattle.file_read.proofs.records.kind_in.Goals as goal

pub returns-then-k-ge-MOST_KINDS : goal.returns-then-k-ge-MOST_KINDS
unfolding kind_in
returns-then-k-ge-MOST_KINDS c = rw (le-leb _ _ c.if-k-ge-MOST_KINDS.true) c.blank_kind.ensures

pub returns-then-f-p : goal.returns-then-f-p
unfolding kind_in
returns-then-f-p c = rw (lt-leb _ _ c.if-k-ge-MOST_KINDS.false, lt-ltb _ _ c.if-f-p.true) c.blank_kind-then-f-p.ensures

pub returns : goal.returns
unfolding kind_in
returns c = rw (lt-leb _ _ c.if-k-ge-MOST_KINDS.false, le-ltb _ _ c.if-f-p.false) c.kind_at.ensures
