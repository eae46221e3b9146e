-- `write::put_all` meets its contract: after i turns the first i records are stored.
use Rattle.std.proofs.Common.{◌≡◌, get_or, length}
use Rattle.lists.specs.Below.{all_below}
use Rattle.file_bytes.specs.Stores.{Put}
use Rattle.file_write.proofs.write.put_all.Given as goal

abbrev pub invariant-loop-i : goal.invariant-loop-i
invariant-loop-i g l =
    (length l.out ≡ length l.initial.out)
    × ((d : _) → Put l.initial.out l.at (all_below (λ k. g.T.Record.bytes (get_or l.records k d)) l.i) l.out)
