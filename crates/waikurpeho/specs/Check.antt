-- The check call: what the checker answers on the file, in one word. RULES: Boundary
use Rattle.std.specs.Prelude.{List, ℕ}
use Rattle.check_packing.specs.Check.{file_checked, file_cells}
use Rattle.answer_word.specs.Answer.{word_told}

-- the count of findings, or the file's refusal, or 6 and the slots needed
unfoldable pub check_answer : List ℕ → List ℕ → ℕ
check_answer file cells = word_told (file_checked file cells)

-- the lent words afterwards
unfoldable pub check_cells : List ℕ → List ℕ → List ℕ
check_cells file cells = file_cells file cells
