-- `plan_unplaced::in_file::left_in` meets its contract, by the test on the counts.
use Rattle.std.proofs.lemmas.Result.{err_from_is_err_and}
use Rattle.domain.specs.Refusal.{refused_as, no_refusal, no_number}
use Rattle.domain.specs.Laws.{when_none}
use Rattle.domain.specs.Bounds.{most_lines}
use Rattle.lists.specs.Table.{table_at}
use Rattle.plan_unplaced.specs.Short.{id_at}
use Rattle.plan_unplaced.specs.Left.{Within, within, left_of, left_by}
use Rattle.plan_unplaced.proofs.in_file.left_in.Goals as goal
use Rattle.plan_unplaced.proofs.in_file.left_in.Goals.{In_ok-refuse}

pub returns-in_err-refuse : goal.returns-in_err-refuse
unfolding left_of
returns-in_err-refuse c =
    let p = err_from_is_err_and c.from_residual.result c.from_residual.ensures.1 in rw (p.1, p.2) (refused_as _ 0 tt _ _ c.in_err-refuse.ensures)

-- past the test the counts are within their bounds
fine : (c : In_ok-refuse) → Within c.args.m c.args.lines.now c.args.n
fine c = within _ _ _ (when_none _ 1 (no_refusal _ 0 tt tt c.in_ok-refuse.ensures))

pub put_ids-requires : goal.put_ids-requires
put_ids-requires c = let w = fine (goal.at.put_ids-requires c).In_ok-refuse in (w.few, w.long)

pub flags_in-flags-requires : goal.flags_in-flags-requires
flags_in-flags-requires c =
    let w = fine (goal.at.flags_in-flags-requires c).In_ok-refuse in (
      w.kinds,
      w.few,
      w.long,
      record { each = λ j l. rw c.put_ids.ensures (table_at 0 most_lines (id_at c.args.lines.now) c.args.n j 0 w.few l) },
    )

pub listed_in-requires : goal.listed_in-requires
listed_in-requires c = (fine (goal.at.listed_in-requires c).In_ok-refuse).kinds

pub returns : goal.returns
unfolding left_of left_by
returns c = rw (c.listed_in.ensures, c.flags_in-flags.ensures) (no_number _ 0 _ (no_refusal _ 0 tt tt c.in_ok-refuse.ensures))
