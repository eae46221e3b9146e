-- `put_seeds` meets its contract: after j turns the first j cells have their seeds.
use Prim.Native.Nat.{◌<◌, ◌*◌}
use mathlib.Core.Path.{◌≡◌, refl, ◌∙◌}
use native.Mathlib.Omega.{arith}
use native.Mathlib.Numerals.{add-one}
use lib.ListN.{get_or, length-set}
use Rattle.lists.specs.Table.{filled}
use Rattle.file_read.specs.Form.{counts_of}
use Rattle.file_read.specs.Records.{bounds, kind_is, many_is}
use Rattle.layer_seeds.specs.Seeds.{seed_at}
use Rattle.layer_seeds.proofs.put_seeds.Goals as goal
use Rattle.layer_seeds.proofs.put_seeds.Goals.{In-loop-j}

pub loop-j-init : goal.loop-j-init
unfolding filled
loop-j-init c = (refl, refl)

-- the kind that the record names is one of the file's
stored : (c : In-loop-j)
    → get_or c.args.records.now (c.loop-j.j * 3) 0
    < (counts_of c.args.f.now).kinds
stored c =
    c.requires.of_kind c.loop-j.j (omega arith)

pub overflow_cast-k : goal.overflow_cast-k
overflow_cast-k c =
    let h = stored (goal.at.overflow_cast-k c).In-loop-j in
    let b = bounds _ c.requires.can_read in
    record { fits = omega arith }

pub seed_of-requires : goal.seed_of-requires
seed_of-requires c =
    let p = c.requires in
    (p.can_read, (p.start_is, p.lines_are))

pub loop-j-preserved : goal.loop-j-preserved
unfolding filled seed_at
loop-j-preserved c =
    let e = c.kind_in-kind.ensures ∙ kind_is _ _ c.requires.can_read (stored (goal.at.loop-j-preserved c).In-loop-j) in
    let n = c.requires.lines_are in (
      simp length-set c.loop-j.invariant.0,
      rw (add-one, ← c.loop-j.invariant.1) (rw c.seed_of.ensures (rw (e, n, many_is))),
    )

pub returns : goal.returns
returns c = let e : c.loop-j.j ≡ c.args.n = omega arith in rw e at c.loop-j.invariant.1

pub overflow_mul-k : goal.overflow_mul-k
overflow_mul-k c = let p = c.requires in omega arith

pub offset_bounds-records-j : goal.offset_bounds-records-j
offset_bounds-records-j c = let p = c.requires in omega arith

pub bounds-records-j : goal.bounds-records-j
bounds-records-j c = let p = c.requires in omega arith
