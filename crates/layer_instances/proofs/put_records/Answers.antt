-- `put_records` meets its contract: each turn stores one record behind the others, and goes on to the next box.
use Prim.Native.Nat.{◌<◌, suc}
use mathlib.Core.Path.{◌≡◌, refl, sym, ◌∙◌}
use native.Mathlib.Omega.{arith}
use native.Mathlib.Numerals.{add-one}
use Rattle.measures.specs.Orders.{share_few}
use Rattle.sheet.specs.Sheets.{kind_at, quantity_of}
use Rattle.file_read.specs.Form.{counts_of}
use Rattle.file_read.specs.Reading.{sheet_of}
use Rattle.file_read.specs.Records.{bounds, kind_is}
use Rattle.plan_boxes.specs.Turns.{turn_of}
use Rattle.lists.specs.Rows.{wrote, wrote_none, wrote_length, wrote_more}
use Rattle.plan_boxes.specs.Files.{next_box_lem}
use Rattle.layer_instances.specs.Instances.{record_words, three}
use Rattle.layer_instances.proofs.put_records.Goals as goal
use Rattle.layer_instances.proofs.put_records.Goals.{After-kind_in-kind}

pub loop-t-init : goal.loop-t-init
unfolding turn_of
loop-t-init c = (refl, refl, sym (wrote_none _ _ _))

-- the kind of the turn's box is one of the file's, and what is read there is the sheet's
within : (c : After-kind_in-kind) → c.loop-t.u.kind < (counts_of c.args.f.now).kinds
within c =
    rw c.loop-t.invariant.1 (c.requires.0.kind_within c.loop-t.t (omega arith))

kind_read : (c : After-kind_in-kind)
    → c.kind_in-kind.result ≡ kind_at (sheet_of c.args.f.now) c.loop-t.u.kind
kind_read c = c.kind_in-kind.ensures ∙ kind_is _ _ c.requires.0.can_read (within c)

pub overflow_cast-k : goal.overflow_cast-k
overflow_cast-k c =
    let h = within (goal.at.overflow_cast-k c).After-kind_in-kind in
    let b = bounds _ c.requires.0.can_read in
    record { fits = omega arith }

pub overflow_cast-orientations : goal.overflow_cast-orientations
overflow_cast-orientations c =
    let e = c.allowed_orientations-orientations.ensures in
    let h = share_few c.kind_in-kind.result.rule in
    record { fits = omega arith }

pub loop-t-preserved : goal.loop-t-preserved
unfolding record_words turn_of quantity_of
loop-t-preserved c =
    let kinds = (sheet_of c.args.f.now).kinds in
    let t = c.loop-t.t in
    let w = within (goal.at.loop-t-preserved c).After-kind_in-kind in
    let b = bounds _ c.requires.0.can_read in
    let r = kind_read (goal.at.loop-t-preserved c).After-kind_in-kind in
    let e : c.put_record.new.out ≡ wrote (record_words kinds) 3 (suc t) c.args.out.now =
    c.put_record.ensures
    ∙ rw (c.allowed_orientations-orientations.ensures, r, c.loop-t.invariant.1, c.loop-t.invariant.2)
    (wrote_more (record_words kinds) 3 (three kinds) t c.args.out.now (omega arith)) in
    let g = wrote_length (record_words kinds) 3 (three kinds) (suc t) c.args.out.now (omega arith) in (
      rw e g,
      c.next_box-u.ensures ∙ next_box_lem _ _ (omega arith) ∙ rw (add-one, r, c.loop-t.invariant.1),
      rw add-one e,
    )

pub returns : goal.returns
returns c = let e : c.loop-t.t ≡ c.args.n = omega arith in rw e at c.loop-t.invariant.2
