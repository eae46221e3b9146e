-- `seed_orientations` meets its contract: a refusal in its turn, or the seeds.
use Rattle.std.proofs.Common.{◌≡◌, List, ℕ, false, sym, ap, ◌∙◌, arith}
use Rattle.std.proofs.lemmas.Result.{err_from_is_err_and}
use Rattle.domain.specs.Laws.{when_none}
use Rattle.domain.specs.Refusal.{no_refusal, room_enough}
use Rattle.lists.specs.Below.{any_below}
use Rattle.sheet.specs.declared.Counts.{Counts}
use Rattle.file_read.specs.Reading.{sheet_of}
use Rattle.file_read.specs.Records.{many_is}
use Rattle.file_accept.specs.declared.Accepted.{Accepted}
use Rattle.file_accept.specs.Accept.{Taken, taken}
use Rattle.layer_instances.specs.Records.{records_in, is_stranger}
use Rattle.layer_seeds.specs.Seeds.{ended_over, ended_refused, ended_strange, ended_short, ended_written, fit}
use Rattle.layer_seeds.proofs.seed_orientations.Goals as goal
use Rattle.layer_seeds.proofs.seed_orientations.Goals.{In_ok-a, In_ok-refuse}

pub returns-then-n-gt-MOST_INSTANCES : goal.returns-then-n-gt-MOST_INSTANCES
returns-then-n-gt-MOST_INSTANCES c = rw c.too_many.ensures (ended_over _ _ _ (omega arith))

pub returns-in_err-a : goal.returns-in_err-a
returns-in_err-a c =
    let p = err_from_is_err_and c.from_residual.result c.from_residual.ensures.1 in
    rw (p.1, p.2) (ended_refused _ _ _ (omega arith) _ c.in_err-a.ensures)

-- past the second test the file is accepted
known : (c : In_ok-a) → Taken c.args.sheet.now c.in_ok-a.a
known c = taken _ _ c.in_ok-a.ensures

-- the strangers by the sheet's kinds
by_sheet : (f records : List ℕ) (a : Accepted) → Taken f a → any_below (is_stranger records a.kinds) (records_in records)
    ≡ any_below (is_stranger records (sheet_of f).many.kinds) (records_in records)
by_sheet f records a t =
    let k = t.kinds_are ∙ ap (λ (m : Counts). m.kinds) (many_is f) in ap (λ (m : ℕ). any_below (is_stranger records m) (records_in records)) k

pub returns-in_err-refuse : goal.returns-in_err-refuse
returns-in_err-refuse c =
    let t = known (goal.at.returns-in_err-refuse c).In_ok-a in
    let p = err_from_is_err_and c.from_residual-in_err-refuse.result c.from_residual-in_err-refuse.ensures.1 in
    rw (p.1, p.2)
    (ended_strange _ _ _ (omega arith) t.sound t.can_read.shape _ (rw (c.has_stranger.ensures ∙ by_sheet _ _ _ t) at c.in_err-refuse.ensures))

-- past the third no record is a stranger
none_strange : (c : In_ok-refuse) → let a = c.args in
    any_below (is_stranger a.records.now c.in_ok-a.a.kinds) (records_in a.records.now) ≡ false
none_strange c = sym c.has_stranger.ensures ∙ when_none c.has_stranger.result 8 (no_refusal _ 0 (tt {0}) (tt {0}) c.in_ok-refuse.ensures)

pub returns-in_err-refuse-2 : goal.returns-in_err-refuse-2
returns-in_err-refuse-2 c =
    let t = known (goal.at.returns-in_err-refuse-2 c).In_ok-a in
    let s = sym (by_sheet _ _ _ t) ∙ none_strange (goal.at.returns-in_err-refuse-2 c).In_ok-refuse in
    let p = err_from_is_err_and c.from_residual-in_err-refuse-2.result c.from_residual-in_err-refuse-2.ensures.1 in
    rw (p.1, p.2) (ended_short _ _ _ (omega arith) t.sound t.can_read.shape s _ c.in_err-refuse-2.ensures)

pub put_seeds-requires : goal.put_seeds-requires
put_seeds-requires c =
    let t = known (goal.at.put_seeds-requires c).In_ok-a in
    fit _ _ _ _ t (none_strange (goal.at.put_seeds-requires c).In_ok-refuse) (room_enough _ _ c.in_ok-refuse-2.ensures)

pub returns : goal.returns
returns c =
    let t = known (goal.at.returns c).In_ok-a in
    let s = sym (by_sheet _ _ _ t) ∙ none_strange (goal.at.returns c).In_ok-refuse in
    rw c.put_seeds.ensures (ended_written _ _ _ (omega arith) t.sound t.can_read.shape s c.in_ok-refuse-2.ensures)
