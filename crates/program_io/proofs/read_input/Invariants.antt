-- `read_input` is safe and ends: each read that goes on adds to n, which stays within the bytes.
use Rattle.std.proofs.Common.{◌-◌, ◌≤◌}
use Rattle.program_io.proofs.read_input.Given as goal

abbrev pub invariant-loop-n : goal.invariant-loop-n
invariant-loop-n g l = l.n ≤ 60001

abbrev pub decreases-loop-n : goal.decreases-loop-n
decreases-loop-n g l = 60001 - l.n
