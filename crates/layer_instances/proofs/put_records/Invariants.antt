-- `put_records` meets its contract: each turn stores one record behind the others, and goes on to the next box.
use mathlib.Core.Path.{◌≡◌}
use lib.ListN.{length}
use Rattle.file_read.specs.Reading.{sheet_of}
use Rattle.plan_boxes.specs.Turns.{turn_of}
use Rattle.lists.specs.Rows.{wrote}
use Rattle.layer_instances.specs.Instances.{record_words}
use Rattle.layer_instances.proofs.put_records.Given as goal

abbrev pub invariant-loop-t : goal.invariant-loop-t
invariant-loop-t l =
    (length l.out ≡ length l.initial.out) × (l.u ≡ turn_of (sheet_of l.f).kinds l.t) × (l.out ≡ wrote (record_words (sheet_of l.f).kinds) 3 l.t l.initial.out)
