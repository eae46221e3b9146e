-- The verdict in each of its cases.
use mathlib.Core.Path.{◌≡◌}
use mathlib.Core.Bool.{true, false}
use mathlib.Core.List.{List}
use lib.Ieee.{Float, binary64, lt}
use lib.Ieee.Fits.{sub-fits}
use Rattle.floats.specs.Ops.{◌⊖◌}
use Rattle.check_pair.specs.declared.Verdict.{Verdict}
use Rattle.check_pair.specs.Pair.{overlaps, distance_of, verdict_at}
use Rattle.check_pair.specs.Shortcut.{far_enough}
use Rattle.check_pair.proofs.Shortcut.{far_enough_lem}

module _ (g : List Float) (asked t : Float) where
  pub at_overlap : overlaps g t ≡ true → Verdict.Overlap ≡ verdict_at g asked t
  unfolding verdict_at
  at_overlap o = rw o

  pub at_close : (d : Float) → d ≡ distance_of g → overlaps g t ≡ false → lt d (asked ⊖ t) ≡ true → Verdict.TooClose d ≡ verdict_at g asked t
  unfolding verdict_at
  at_close d e o h = let k : lt (distance_of g) (asked ⊖ t) ≡ true = cc in rw (o, k, e)

  pub at_apart : overlaps g t ≡ false → lt (distance_of g) (asked ⊖ t) ≡ false → Verdict.Apart ≡ verdict_at g asked t
  unfolding verdict_at
  at_apart o d = rw (o, d)

  -- no root is needed
  pub at_far : overlaps g t ≡ false → far_enough g (asked ⊖ t) ≡ true → Verdict.Apart ≡ verdict_at g asked t
  at_far o h = at_apart o (far_enough_lem g (asked ⊖ t) (sub-fits binary64 asked t) h)
