-- `pair::near_end` meets its contract: a far span tells that each is far; else, while no box was near, each that was passed is far.
use Rattle.std.proofs.Common.{◌≡◌, true, false, ℕ, ◌+◌, ◌≤◌, ◌<◌}
use Rattle.check_pair.specs.Pair.{gaps}
use Rattle.check_pair.specs.Shortcut.{some_gap}
use Rattle.check_words.specs.Boxes.{box_at}
use Rattle.check_list.proofs.pair.near_end.Given as goal

abbrev pub invariant-loop-b : goal.invariant-loop-b
invariant-loop-b l =
    l.near ≡ false → (k : ℕ) → l.from ≤ k → k < l.from + 1 + l.b-index → some_gap l.quick.limit (gaps l.e (box_at l.boxes k)) ≡ true
