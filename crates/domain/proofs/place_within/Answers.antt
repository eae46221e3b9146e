-- `domain::place_within` meets its contract, by the test that led to each return.
use borrow.Author.Tests.{lt-ltb, le-ltb}
use native.Mathlib.Omega.{arith}
use Rattle.domain.specs.Bounds.{place_within}
use Rattle.domain.proofs.place_within.Goals as goal

pub returns-then-k-lt-MOST_KINDS : goal.returns-then-k-lt-MOST_KINDS
unfolding place_within
returns-then-k-lt-MOST_KINDS c = (rw (lt-ltb _ _ c.if-k-lt-MOST_KINDS.true), omega arith)

pub returns : goal.returns
unfolding place_within
returns c = (rw (le-ltb _ _ c.if-k-lt-MOST_KINDS.false), omega arith)
