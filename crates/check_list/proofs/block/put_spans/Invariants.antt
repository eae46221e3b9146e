-- `block::put_spans` meets its contract: while all were within their spans, each line that was passed is within that of its block.
use Rattle.std.proofs.Common.{◌≡◌, true, ◌*◌, ◌/◌, length, min}
use Rattle.domain.specs.Bounds.{most_lines}
use Rattle.check_list.specs.Blocks.{block, Spanned}
use Rattle.check_list.proofs.block.put_spans.Given as goal

abbrev pub invariant-loop-k : goal.invariant-loop-k
invariant-loop-k l = record { blocks : length l.spans ≡ most_lines / block; spanned : l.all ≡ true → Spanned l.boxes (min l.n (l.k * block)) l.spans }
