-- `put_columns` meets its contract: the columns hold what is read of the lines, and give their findings.
use mathlib.Core.Path.{sym, ap, ◌∙◌}
use Rattle.lists.specs.Table.{filled_length}
use Rattle.file_read.specs.Records.{container_is}
use Rattle.check_words.specs.Writes.{wrote_length}
use Rattle.check_packing.specs.Lines.{mass_below}
use Rattle.check_packing.proofs.Read.{kinds_are, lines_are}
use Rattle.check_packing.proofs.Holds.{marks_read, cells_read, lines_ran}
use Rattle.check_packing.specs.Columns.{kind_named}
use Rattle.file_read.specs.Reading.{sheet_of}
use Rattle.check_packing.proofs.put_columns.Goals as goal

pub first_column-requires : goal.first_column-requires
first_column-requires c = (c.requires.0.0, c.requires.0.1.1.0)

pub line_columns-mass-requires : goal.line_columns-mass-requires
line_columns-mass-requires c =
    (c.requires.0.0, (c.requires.0.1.0, (c.requires.1.which_long, c.requires.1.boxes_long)))

pub mark_columns-requires : goal.mark_columns-requires
mark_columns-requires c =
    let w = c.requires.1 in
    let e = c.line_columns-mass.ensures.1 in (
      marks_read _ _ c.requires.0.0 (cells_read _ _ c.requires.0.0 c.args.which.now (kind_named (sheet_of c.args.f.now)) 0 e w.which_long) c.requires.0.1.1.0
          c.first_column.ensures,
      (c.requires.0.1.1.1, (rw (e, filled_length) w.which_long, (w.again_long, c.requires.2))),
    )

pub returns : goal.returns
returns c =
    let t = c.requires.0.0 in
    record {
      put =
          lines_ran _ _ t c.requires.1 c.line_columns-mass.ensures.1 c.mark_columns.ensures.0 c.line_columns-mass.ensures.2 _
          (sym (c.container_in-c.ensures ∙ container_is _ t.can_read)) _ c.counts_of.ensures c.line_findings-words.ensures;
      mass_is = c.line_columns-mass.ensures.0 ∙ ap (mass_below _) (lines_are _ _ t);
      packed_are = λ k b. c.mark_columns.ensures.1 k (rw (kinds_are _ _ t) b);
    }

pub shape_of-out : goal.shape_of-out
shape_of-out c = wrote_length c.line_findings-words.ensures.words

pub shape_of-which : goal.shape_of-which
shape_of-which c = rw c.line_columns-mass.ensures.1 (filled_length _ _ _)

pub shape_of-again : goal.shape_of-again
shape_of-again c = rw c.mark_columns.ensures.0 (filled_length _ _ _)

pub shape_of-boxes : goal.shape_of-boxes
shape_of-boxes c = rw c.line_columns-mass.ensures.2 (filled_length _ _ _)
