-- `accept::is_misplaced` meets its contract, by what each range test says.
use Rattle.file_accept.proofs.is_misplaced.Goals as goal

pub returns : goal.returns
returns c = cc
