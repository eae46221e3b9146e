-- `put_rest` meets its contract: the mass and the kinds, then the unplaced ids.
use mathlib.Core.Path.{sym, ap, ◌∙◌}
use Prim.Native.Nat.{◌+◌, ◌*◌, ◌≤◌}
use native.Mathlib.Omega.{arith}
use Rattle.sheet.specs.declared.Counts.{Counts}
use Rattle.file_read.specs.Records.{container_is}
use Rattle.check_words.specs.Writes.{wrote_then, wrote_length}
use Rattle.check_packing.proofs.Read.{few_kinds, kinds_are}
use Rattle.check_packing.proofs.Holds.{fair_is, short_read, rest_held}
use Rattle.check_packing.proofs.put_rest.Goals as goal
use Rattle.check_packing.proofs.put_rest.Goals.{After-kind_findings-p}

pub short_column-requires : goal.short_column-requires
short_column-requires c = few_kinds _ _ c.requires.0

-- the words of the mass and the kinds
kinds_few : (c : After-kind_findings-p) → c.kind_findings-p.result ≤ c.args.l.words + 5 * (c.args.a.kinds + 1)
kinds_few c =
    let t = c.requires.0 in
    let put = (rw c.counts_of.ensures at c.kind_findings-p.ensures).within c.requires.1.1.1.1.0 in
    omega (arith, put.few, ap (λ (m : Counts). m.kinds) (fair_is _ _ t), kinds_are _ _ t)

pub put_wrong-requires : goal.put_wrong-requires
put_wrong-requires c =
    let t = c.requires.0 in
    let h = short_read _ _ t c.args.packed.now c.args.many.now c.requires.1.1.1.0 c.requires.1.1.0 c.short_column.ensures in
    (t, (c.requires.1.0, (h, omega (arith, kinds_few (goal.at.put_wrong-requires c).After-kind_findings-p, few_kinds _ _ t, c.requires.1.1.1.1.0))))

pub shape_of-out : goal.shape_of-out
shape_of-out c =
    let put = c.kind_findings-p.ensures.within c.requires.1.1.1.1.0 in
    wrote_length c.put_wrong.ensures.words ∙ wrote_length put.words

pub returns : goal.returns
returns c =
    let t = c.requires.0 in
    let put = (rw c.counts_of.ensures at c.kind_findings-p.ensures).within c.requires.1.1.1.1.0 in
    let h = short_read _ _ t c.args.packed.now c.args.many.now c.requires.1.1.1.0 c.requires.1.1.0 c.short_column.ensures in
    let found =
    rest_held _ _ t _ (sym (c.container_in-c.ensures ∙ container_is _ t.can_read)) _ c.requires.1.1.1.1.1 c.args.ids.now c.requires.1.0 c.short_column.new.short _
    h c.listed_column.ensures in
    record {
      words = rw found at (wrote_then put.words c.put_wrong.ensures.words);
      few = omega (arith, kinds_few (goal.at.returns c).After-kind_findings-p, c.put_wrong.ensures.few);
    }
