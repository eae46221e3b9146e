-- A file that was accepted with the counts of before is accepted today. RULES: Numbers that bound it
use Rattle.std.specs.Prelude.{ℕ, ◌≡◌, List}
use Rattle.std.proofs.Common.{◌∙◌}
use Rattle.sheet.specs.Sheets.{most_now}
use Rattle.file_read.specs.Reading.{refusal_by, refusal_of}
use Rattle.file_laws.specs.Counts.{refusal_now, accepted_more}
use Rattle.file_laws.specs.Before.{most_before, before_within}

module _ (f : List ℕ) where
  -- **a file that was accepted then is accepted**
  pub accepted_since : refusal_by most_before f ≡ 0 → refusal_of f ≡ 0
  accepted_since h = refusal_now f ∙ accepted_more most_before most_now before_within f h
