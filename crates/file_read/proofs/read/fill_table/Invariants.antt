-- `read::fill_table` meets its contract: after k turns the first k records stand in the first cells.
use Rattle.std.proofs.Common.{◌≡◌, ◌+◌, ◌*◌}
use Rattle.lists.specs.Table.{filled}
use Rattle.file_read.proofs.read.fill_table.Given as goal

abbrev pub invariant-loop-k : goal.invariant-loop-k
invariant-loop-k g l = l.records ≡ filled l.initial.records (λ k. g.T.Record.from l.f (l.start + k * g.T.Record.WIDTH)) l.k
