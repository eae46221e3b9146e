-- What a line and a pair of lines get, by the lines and not by their numbers: the same wherever the lines stand.
use Rattle.std.specs.Prelude.{ℕ, ◌&&◌, List, ◌++◌}
use Rattle.measures.specs.Asked.{asked_of}
use Rattle.sheet.specs.declared.Line.{Line}
use Rattle.sheet.specs.declared.Sheet.{Sheet}
use Rattle.sheet.specs.Sheets.{line_at}
use Rattle.check_pair.specs.declared.Verdict.{Verdict}
use Rattle.check_pair.specs.Pair.{verdict_of}
use Rattle.check_words.specs.Words.{only_if}
use Rattle.check_list.specs.Finding.{name_words, repeat_words, place_words, verdict_words}
use Rattle.check_packing.specs.Lines.{known, kind_for, repeats, box_of, tolerance}

-- what a line gets for itself, whatever lines stand before it: all but "repeated"
unfoldable pub own_findings : Sheet → ℕ → Line → List ℕ
own_findings s i l =
    name_words i l (known s l) (kind_for s l) ++ place_words s.container i l (known s l) (kind_for s l) (box_of l (kind_for s l))

abbrev pub repeat_finding : Sheet → ℕ → List ℕ
repeat_finding s i = repeat_words i (line_at s i) (repeats s i)

-- the verdict on two lines of known kinds, at the distance that the container asks
unfoldable pub verdict_on : Sheet → Line → Line → Verdict
verdict_on s l m = verdict_of (box_of l (kind_for s l)) (box_of m (kind_for s m)) (asked_of s.container) (tolerance s)

-- what two lines get, the first numbered i and the second j
unfoldable pub pair_words : Sheet → ℕ → Line → ℕ → Line → List ℕ
pair_words s i l j m = only_if (known s l && known s m) (verdict_words i j (asked_of s.container) (verdict_on s l m))
