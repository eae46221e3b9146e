-- `plan_unplaced::distinct_placed` meets its contract: the marks are those of the instances placed, and each block of lines adds what its marks say.
use Prim.Native.Nat.{ℕ, ◌≤◌, ◌<◌, ◌+◌}
use mathlib.Core.Path.{◌≡◌, sym}
use mathlib.Core.Bool.{Bool}
use mathlib.Core.List.{List}
use native.Mathlib.Omega.{arith}
use borrow.Author.Tests.{ltb-true}
use Rattle.lists.specs.Bools.{and_left}
use Rattle.sheet.specs.declared.Line.{Line}
use Rattle.plan_unplaced.specs.Short.{distinct_placed}
use Rattle.plan_unplaced.specs.Distinct.{distinct_none, distinct_most, distinct_done}
use Rattle.plan_unplaced.specs.Marks.{Adds, marked_none, adds_strangers, strangers_by}
use Rattle.plan_unplaced.proofs.distinct_placed.Goals as goal
use Rattle.plan_unplaced.proofs.distinct_placed.Goals.{In-loop-j}

pub loop-j-init : goal.loop-j-init
loop-j-init c =
    let a = c.args in (
      omega arith,
      rw c.no_marks-seen.ensures (marked_none a.lines.now a.id a.quantity (omega arith)),
      sym (distinct_none a.lines.now a.id a.quantity),
    )

-- a turn's block begins among the n lines
turn : (c : In-loop-j) → c.loop-j.j < c.args.n
turn c = ltb-true _ _ (and_left _ _ c.loop-j-test.true)

pub some_named-requires : goal.some_named-requires
some_named-requires c = let e = c.block_end-to.ensures in (omega arith, omega arith)

pub mark_lines-count-requires : goal.mark_lines-count-requires
mark_lines-count-requires c =
    let e = c.block_end-to.ensures in
    (omega arith, omega arith, c.requires.2, c.loop-j.invariant.1)

-- the count after a block
counted : (lines : List Line) (from to id q added count : ℕ) (seen : List Bool) → count ≡ distinct_placed lines from id q
    → Adds lines from to id q added seen → count + added ≡ distinct_placed lines to id q
counted lines from to id q added count seen e a = let c = a.counts in omega arith

-- so far it is at most the lines
few : (lines : List Line) (from to id q added count : ℕ) (seen : List Bool) → count ≡ distinct_placed lines from id q
    → Adds lines from to id q added seen → count + added ≤ to
few lines from to id q added count seen e a =
    let c = counted lines from to id q added count seen e a in
    let d = distinct_most lines to id q in
    omega arith

pub loop-j-preserved-then-some_named : goal.loop-j-preserved-then-some_named
loop-j-preserved-then-some_named c =
    let e = c.block_end-to.ensures in
    let l = c.loop-j in
    let a = c.mark_lines-count.ensures in
    (omega arith, a.after, counted _ _ _ _ _ _ _ _ l.invariant.2 a)

pub loop-j-preserved : goal.loop-j-preserved
loop-j-preserved c =
    let e = c.block_end-to.ensures in
    let l = c.loop-j in
    let s = strangers_by _ _ _ _ _ _ c.requires.3 (omega arith) (c.some_named.ensures c.if-some_named.false) in
    let a = adds_strangers _ _ _ _ _ l.seen (omega arith) s l.invariant.1 in
    let d = counted _ _ _ _ _ _ _ _ l.invariant.2 a in
    (omega arith, a.after, omega arith)

pub returns : goal.returns
returns c =
    let a = c.args in
    let l = c.loop-j in
    distinct_done a.lines.now l.j a.n a.id a.quantity l.count l.invariant.0 l.invariant.2 c.loop-j-test.false

pub block_end-to-requires : goal.block_end-to-requires
block_end-to-requires c = turn c

pub overflow_add-count : goal.overflow_add-count
overflow_add-count c = let e = c.block_end-to.ensures in let f = few _ _ _ _ _ _ _ _ c.loop-j.invariant.2 c.mark_lines-count.ensures in omega (arith, f, e)

pub loop-j-smaller-then-some_named : goal.loop-j-smaller-then-some_named
loop-j-smaller-then-some_named c = let e = c.block_end-to.ensures in omega arith

pub loop-j-smaller : goal.loop-j-smaller
loop-j-smaller c = let e = c.block_end-to.ensures in omega arith
