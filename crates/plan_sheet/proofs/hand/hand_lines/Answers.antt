-- `plan_sheet::hand::hand_lines` meets its contract: refused by the first test that holds, or every line's words.
use mathlib.Core.Path.{◌≡◌, ◌∙◌}
use mathlib.Core.Bool.{false, ◌||◌}
use lib.ListN.{length}
use lib.Dec.{ltb}
use borrow.Author.Tests.{eq-eqb}
use Rattle.std.proofs.lemmas.Result.{err_from_is_err_and}
use Rattle.domain.specs.Bounds.{most_kinds, most_lines}
use Rattle.domain.specs.Laws.{when_none}
use Rattle.domain.specs.Refusal.{no_refusal, no_number}
use Rattle.plan_sheet.specs.Hand.{hand_refusal, handed_of, slots_of, room_of}
use Rattle.plan_sheet.specs.Lent.{plan_by, hand_short, hand_over, hand_few, none_refused, hand_long, words_by}
use Rattle.plan_sheet.proofs.hand.hand_lines.Goals as goal
use Rattle.plan_sheet.proofs.hand.hand_lines.Goals.{In_ok-refuse, In_ok-refuse-2, In_ok-refuse-3}

pub returns-in_err-refuse : goal.returns-in_err-refuse
returns-in_err-refuse c =
    let p = err_from_is_err_and c.from_residual.result c.from_residual.ensures.1 in rw (p.1, p.2) (hand_short _ _ _ _ tt _ c.in_err-refuse.ensures)

-- ---- past the first test, and past the second
long : (c : In_ok-refuse) → ltb (length c.args.lines.now) c.args.told.placed ≡ false
long c = when_none _ 1 (no_refusal _ 0 tt tt c.in_ok-refuse.ensures)

pub returns-in_err-refuse-2 : goal.returns-in_err-refuse-2
returns-in_err-refuse-2 c =
    let p = err_from_is_err_and c.from_residual-in_err-refuse-2.result c.from_residual-in_err-refuse-2.ensures.1 in
    rw (p.1, p.2) (hand_over _ _ _ _ (long (goal.at.returns-in_err-refuse-2 c).In_ok-refuse) tt _ c.in_err-refuse-2.ensures)

within : (c : In_ok-refuse-2) → (ltb most_lines c.args.told.placed || ltb most_kinds c.args.left.count) ≡ false
within c = when_none _ 1 (no_refusal _ 0 tt tt c.in_ok-refuse-2.ensures)

pub returns-in_err-refuse-3 : goal.returns-in_err-refuse-3
returns-in_err-refuse-3 c =
    let g = goal.at.returns-in_err-refuse-3 c in
    let p = err_from_is_err_and c.from_residual-in_err-refuse-3.result c.from_residual-in_err-refuse-3.ensures.1 in
    rw (p.1, p.2) (hand_few _ _ _ _ (long g.In_ok-refuse) (within g.In_ok-refuse-2) tt _ c.in_err-refuse-3.ensures)

-- ---- nothing is refused
fair : (c : In_ok-refuse-3) → ltb (length c.args.lines.now) c.args.told.placed ≡ false
    → (ltb most_lines c.args.told.placed || ltb most_kinds c.args.left.count) ≡ false
    → let a = c.args in hand_refusal (plan_by a.told a.left a.lines.now).refused a.told.placed a.left.count (length a.slots.now) ≡ 0
fair c l w =
    let a = c.args in none_refused a.told a.left a.lines.now a.slots.now l w (when_none _ 5 (no_refusal _ a.told.placed tt tt c.in_ok-refuse-3.ensures))

pub put_lines-requires : goal.put_lines-requires
put_lines-requires c =
    let a = c.args in
    let g = goal.at.put_lines-requires c in
    let e = fair g.In_ok-refuse-3 (long g.In_ok-refuse) (within g.In_ok-refuse-2) in
    (hand_long a.told a.left a.lines.now _ e, (room_of _ a.told.placed a.left.count _ e).words)

pub returns : goal.returns
unfolding handed_of slots_of plan_by
returns c =
    let a = c.args in
    let g = goal.at.returns c in
    let e = fair g.In_ok-refuse-3 (long g.In_ok-refuse) (within g.In_ok-refuse-2) in
    record {
      answer_is = no_number _ _ _ e;
      words_are = c.put_lines.ensures ∙ words_by _ a.told.placed a.slots.now (room_of _ a.told.placed a.left.count _ e).lines ∙ rw (eq-eqb _ _ e);
    }
