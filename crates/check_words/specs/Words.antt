-- The words of a finding, and words that are there only where a test holds. RULES: Findings: words
use Rattle.std.specs.Prelude.{ℕ, List, [], ◌∷◌, Bool, true, false}
use Rattle.std.specs.Float.{binary64}
use Rattle.std.specs.Float.Ieee.{to_bits}
use Rattle.check_words.specs.declared.Finding.{Finding}
use Rattle.check_words.specs.declared.Finding.TheVariants.{Unknown, OutOfRange, Repeated, Turned, Elsewhere, Outside, Overlap, TooClose}
use Rattle.check_words.specs.declared.Finding.TheVariants.{Overweight, Missing, WronglyListed}

-- its number, and what it tells
abbrev pub words_of : Finding → List ℕ
words_of (Unknown line id) = 1 ∷ line ∷ id ∷ 0 ∷ 0 ∷ []
words_of (OutOfRange line id instance quantity) = 2 ∷ line ∷ id ∷ instance ∷ quantity ∷ []
words_of (Repeated line id instance) = 3 ∷ line ∷ id ∷ instance ∷ 0 ∷ []
words_of (Turned line id orientation) = 4 ∷ line ∷ id ∷ orientation ∷ 0 ∷ []
words_of (Elsewhere line bin) = 5 ∷ line ∷ bin ∷ 0 ∷ 0 ∷ []
words_of (Outside line id) = 6 ∷ line ∷ id ∷ 0 ∷ 0 ∷ []
words_of (Overlap first second) = 7 ∷ first ∷ second ∷ 0 ∷ 0 ∷ []
words_of (TooClose first second distance asked) = 8 ∷ first ∷ second ∷ to_bits binary64 distance ∷ to_bits binary64 asked ∷ []
words_of (Overweight mass limit) = 9 ∷ to_bits binary64 mass ∷ to_bits binary64 limit ∷ 0 ∷ 0 ∷ []
words_of (Missing id) = 10 ∷ id ∷ 0 ∷ 0 ∷ 0 ∷ []
words_of (WronglyListed id) = 11 ∷ id ∷ 0 ∷ 0 ∷ 0 ∷ []

-- the words where the test holds, else none
abbrev pub only_if : Bool → List ℕ → List ℕ
only_if true ws = ws
only_if false ws = []
