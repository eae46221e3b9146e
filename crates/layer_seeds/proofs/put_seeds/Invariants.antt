-- `put_seeds` meets its contract: after j turns the first j cells have their seeds.
use mathlib.Core.Path.{◌≡◌}
use lib.ListN.{length}
use Rattle.lists.specs.Table.{filled}
use Rattle.file_read.specs.Reading.{sheet_of}
use Rattle.layer_seeds.specs.Seeds.{seed_at}
use Rattle.layer_seeds.proofs.put_seeds.Given as goal

abbrev pub invariant-loop-j : goal.invariant-loop-j
invariant-loop-j l =
    (length l.out ≡ length l.initial.out) × (l.out ≡ filled l.initial.out (seed_at (sheet_of l.f) l.records) l.j)
