-- `put_all` meets its contract: the lines with their pairs, then the rest.
use mathlib.Core.Path.{refl, ◌∙◌}
use Prim.Native.Nat.{ℕ, ◌+◌, ◌*◌, ◌/◌, ◌≤◌}
use native.Mathlib.Nat.{mul-le-mul}
use native.Mathlib.Omega.{arith}
use Rattle.domain.specs.Bounds.{most_lines}
use Rattle.check_words.specs.Wrote.{room_for}
use Rattle.check_words.specs.Writes.{wrote_then, wrote_length}
use Rattle.check_list.specs.View.{in_two}
use Rattle.check_packing.specs.Findings.{findings}
use Rattle.check_packing.proofs.Read.{kinds_are, lines_are, few_lines}
use Rattle.check_packing.proofs.Holds.{ids_read, many_read}
use Rattle.check_packing.proofs.put_all.Goals as goal
use Rattle.check_packing.proofs.put_all.Goals.{After-put_lines-l}

pub put_lines-l-requires : goal.put_lines-l-requires
put_lines-l-requires c =
    let t = c.requires in
    record {
      ready = (t, (ids_read _ _ t c.kind_columns-all.ensures.1, (many_read _ _ t c.kind_columns-all.ensures.2, refl)));
      all = c.kind_columns-all.ensures.0;
    }

-- the words of the lines
lines_few : (c : After-put_lines-l)
    → c.put_lines-l.result.words ≤ 5 * (6 * c.args.a.lines + c.args.a.lines * c.args.a.lines / 2)
lines_few c = rw (lines_are _ _ c.requires) (omega (arith, c.put_lines-l.ensures.put.few))

square : (n : ℕ) → n ≤ most_lines → n * n ≤ most_lines * most_lines
square n h = mul-le-mul {n₂ = most_lines} {m₂ = most_lines} h h

pub put_rest-requires : goal.put_rest-requires
put_rest-requires c =
    let t = c.requires in
    let n = few_lines _ _ t in
    let put = c.put_lines-l.ensures in (
      t,
      (
        ids_read _ _ t c.kind_columns-all.ensures.1,
        (
          many_read _ _ t c.kind_columns-all.ensures.2,
          ((λ i b. put.packed_are i (rw (← (kinds_are _ _ t)) b)), (omega (arith, lines_few (goal.at.put_rest-requires c).After-put_lines-l, n, square c.args.a.lines n), put.mass_is)),
        ),
      ),
    )

pub shape_of-out : goal.shape_of-out
shape_of-out c =
    wrote_length c.put_rest.ensures.words ∙ wrote_length c.put_lines-l.ensures.put.words

pub returns : goal.returns
unfolding findings room_for
returns c =
    record {
      words = rw in_two at (wrote_then c.put_lines-l.ensures.put.words c.put_rest.ensures.words);
      few = omega (arith, c.put_rest.ensures.few, lines_few (goal.at.returns c).After-put_lines-l);
    }
