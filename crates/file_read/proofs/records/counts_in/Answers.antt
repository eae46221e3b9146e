-- `records::counts_in` meets its contract, as the sections say the counts.
use Rattle.file_read.specs.Records.{counts_in, right_says, wrong_says, counts_right_in}
use Rattle.file_read.proofs.records.counts_in.Goals as goal
use Rattle.std.proofs.Common.{◌∙◌, sym}

pub returns-in-Some : goal.returns-in-Some
returns-in-Some c =
    let r = right_says c.args.f.now c.in-Some.sections c.in-Some.ensures in
    r.many_are ∙ sym (counts_right_in c.args.f.now r.shape)

pub returns-in-None : goal.returns-in-None
unfolding counts_in
returns-in-None c = rw (wrong_says c.args.f.now c.in-None.ensures)
