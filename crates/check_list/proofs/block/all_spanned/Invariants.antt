-- `block::all_spanned` meets its contract: while all were within the span, each that was passed is.
use Rattle.std.proofs.Common.{◌≡◌, true, ℕ, ◌<◌}
use Rattle.check_pair.specs.Span.{spans}
use Rattle.check_words.specs.Boxes.{box_at}
use Rattle.check_list.proofs.block.all_spanned.Given as goal

abbrev pub invariant-loop-e : goal.invariant-loop-e
invariant-loop-e l = l.all ≡ true → (k : ℕ) → k < l.e-index → spans l.s (box_at l.boxes k) ≡ true
