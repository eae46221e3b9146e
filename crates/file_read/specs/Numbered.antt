-- What a file is refused by is one of the nine numbers.
use Rattle.std.specs.Prelude.{not, List, ℕ}
use Rattle.std.proofs.Common.{arith}
use Rattle.domain.specs.Numbers.{Numbered, when_numbered, or_numbered, first_numbered}
use Rattle.measures.specs.declared.Kind.{Kind}
use Rattle.measures.specs.Faults.{kind_fault}
use Rattle.sheet.specs.declared.Sheet.{Sheet}
use Rattle.sheet.specs.Sheets.{kind_fault_in, line_fault, line_fault_in, sheet_refusal}
use Rattle.file_read.specs.Form.{right_shape}
use Rattle.file_read.specs.Reading.{sheet_of, refusal_of}

kind_numbered : (kinds : List Kind) (k : ℕ) → Numbered (kind_fault_in kinds k)
unfolding kind_fault_in kind_fault
kind_numbered kinds k =
    or_numbered _ _ (when_numbered _ 4 (omega arith)) (or_numbered _ _ (when_numbered _ 3 (omega arith)) (when_numbered _ 5 (omega arith)))

pub sheet_numbered : (s : Sheet) → Numbered (sheet_refusal s)
unfolding sheet_refusal line_fault_in line_fault
sheet_numbered s =
    or_numbered _ _ (when_numbered _ 2 (omega arith))
    (or_numbered _ _ (when_numbered _ 3 (omega arith))
    (or_numbered _ _ (first_numbered (kind_fault_in s.kinds) s.many.kinds (kind_numbered s.kinds))
    (or_numbered _ _ (when_numbered _ 2 (omega arith))
    (first_numbered (line_fault_in s.lines) s.many.lines (λ k. when_numbered _ 3 (omega arith))))))

pub file_numbered : (f : List ℕ) → Numbered (refusal_of f)
unfolding refusal_of sheet_refusal sheet_of
file_numbered f = or_numbered _ _ (when_numbered (not (right_shape f)) 1 (omega arith)) (sheet_numbered (sheet_of f))
