-- `put_within` meets its contract: its columns are long enough.
use Rattle.std.proofs.lemmas.List.{length-replicate}
use Rattle.check_packing.proofs.Read.{few_lines}
use Rattle.check_packing.proofs.Holds.{unmarked}
use Rattle.check_words.specs.Writes.{wrote_length}
use Rattle.check_packing.proofs.put_within.Goals as goal

pub put_columns-requires : goal.put_columns-requires
put_columns-requires g c =
    let r = c.requires in (
      r.ready,
      record { few = few_lines _ _ r.ready.0; which_long = rw length-replicate r.lines; again_long = rw length-replicate r.lines; boxes_long = rw length-replicate r.lines },
      unmarked _ _ g.row.BOXES r.some r.boxes,
    )

pub shape_of-out : goal.shape_of-out
shape_of-out g c = wrote_length c.put_columns.ensures.put.words
