-- `seed_of` meets its contract: a turn of the loop is a turn of the definition.
use mathlib.Core.Path.{◌≡◌}
use Rattle.file_read.specs.Reading.{sheet_of}
use Rattle.layer_seeds.specs.Seeds.{seed_of}
use Rattle.layer_seeds.proofs.seed_of.Given as goal

abbrev pub invariant-loop-i : goal.invariant-loop-i
invariant-loop-i l = l.seed ≡ seed_of (sheet_of l.f).lines l.i l.id l.instance
