-- `number_of` meets its contract: the letters so far are digits, so that those behind them decide, and n is the capped value of those so far.
use Rattle.std.proofs.Common.{◌≡◌, take, drop}
use Rattle.show.specs.Digits.{value_of}
use Rattle.show_number.specs.Number.{all_digits, capped}
use Rattle.show_number.proofs.number_of.Given as goal

abbrev pub invariant-loop-letter : goal.invariant-loop-letter
invariant-loop-letter l =
    (all_digits (drop l.letter-index l.word) ≡ all_digits l.word) × (l.n ≡ capped (value_of 10 (take l.letter-index l.word)))
