-- A sample's cases: their sizes, how one comes after the other, and the tally.
use Rattle.std.specs.Prelude.{◌≡◌, ℕ, ◌-◌, Bool, cond, not, ◌||◌, List, ◌==◌, Option, Some, MatchOption}
use Rattle.replay_vectors.specs.declared.Case.{Case}
use Rattle.replay_vectors.specs.declared.Cases.{Cases}
use Rattle.replay_vectors.specs.declared.Tally.{Tally}
use Rattle.file_bytes.specs.Bytes.{u32_at}
pub use Rattle.replay_sample.specs.Sample.{beyond, part_of}
pub use Rattle.replay_sample.specs.Places.{later, beyond_twice}

-- the size of the body of the case at `at`
abbrev pub size_at : List ℕ → ℕ → ℕ
size_at s at = u32_at s (beyond at 4)

-- the case at `at`
abbrev pub CaseAt : List ℕ → ℕ → Case → Type 0
CaseAt s at c = (c.tag ≡ u32_at s at) × (c.body.now ≡ part_of s (beyond at 8) (size_at s at))

-- the next case is given, and the one after it comes next; or none is left
abbrev pub NextCase : Cases → Option Case → Cases → Type 0
NextCase s r t =
    MatchOption r (s.left ≡ 0)
    (λ c.
    CaseAt s.from.bytes.now s.from.at c
    × (t.left ≡ s.left - 1)
    × (t.from ≡ later (later s.from 8) (size_at s.from.bytes.now s.from.at)))

-- the tally after one more case, which is as expected or differs
abbrev pub tallied : Tally → Bool → Tally
tallied t same =
    record {
      cases = beyond t.cases 1;
      differ = cond same t.differ (beyond t.differ 1);
      first = cond (same || not (t.differ == 0)) t.first (Some (beyond t.cases 1));
    }
