-- `items::try_item` meets its contract, by the test that led to each return.
use Rattle.std.proofs.Common.{◌*◌, ◌∙◌, get_or, lt-ltb, le-ltb}
use Rattle.file_read.specs.Records.{kind_is}
use Rattle.layer_plan.specs.Offers.{item_offer}
use Rattle.layer_plan.specs.Items.{tries_turned, tries_skipped}
use Rattle.layer_plan.proofs.items.try_item.Goals as goal

pub returns-then-p-records : goal.returns-then-p-records
unfolding item_offer
returns-then-p-records c =
    let p = get_or c.args.items.now (c.args.j * 2) 0 in
    let i = get_or c.args.records.now (p * 3) 0 in
    let e = c.kind_in-kind.ensures ∙ kind_is _ _ c.requires.0.can_read (c.requires.0.of_kind p c.if-p-records.true) in
    rw c.place-step.ensures (tries_turned _ _ _ i _ _ _ (rw (lt-ltb _ _ c.if-p-records.true, c.max-count.ensures)) e)

pub returns : goal.returns
unfolding item_offer
returns c = tries_skipped _ _ _ (rw (le-ltb _ _ c.if-p-records.false))
