-- Whether a pair gets a finding, told without its distance: by the sum of the squares where that settles it. RULES: Findings: pairs
use Rattle.std.specs.Prelude.{◌≡◌, Bool, true, false, cond, ◌&&◌, ◌||◌, List, T, Float}
use Rattle.std.specs.Float.{binary64}
use Rattle.std.specs.Float.Ieee.{lt, le, of_bits}
use Rattle.floats.specs.Ops.{◌⊖◌, ◌⊗◌, none}
use Rattle.check_root.specs.Sqrt.{sqrt_of}
use Rattle.check_pair.specs.declared.Verdict.{Verdict}
use Rattle.check_pair.specs.declared.Verdict.TheVariants.{Apart, Overlap, TooClose}
use Rattle.check_pair.specs.Pair.{sum_of, distance_of, overlaps}

-- whether a verdict is a finding
abbrev pub is_found : Verdict → Bool
is_found Apart = false
is_found Overlap = true
is_found (TooClose d) = true

-- 0.999
abbrev pub nearly : Float
nearly = of_bits binary64 0x3FEFF7CED916872B

-- a little less than the square of what is asked, where its root is below that; else 0
unfoldable pub close_of : Float → Float → Float
close_of asked t =
    let least = asked ⊖ t in
    let c = nearly ⊗ (least ⊗ least) in
    cond (lt (sqrt_of binary64 c) least) c none

-- they overlap, or the sum of the squares is above 0 and at most `close`, or the distance is below what is asked. With close_of for `close`, or with 0, it
-- is whether the verdict is a finding (proofs/Told.antt).
unfoldable pub found_by : Float → List Float → Float → Float → Bool
found_by close g asked t = overlaps g t || ((lt none (sum_of g) && le (sum_of g) close) || lt (distance_of g) (asked ⊖ t))

-- a `close` that tells nothing wrong: a sum above 0 and at most that has a root below what is asked
pub record Fair (close asked t : Float) : Type 0 where
  pub fair : (s : Float) → T (lt none s) → T (le s close) → lt (sqrt_of binary64 s) (asked ⊖ t) ≡ true
