-- `check_packing` meets its contract: the file's refusal, or what is found on it.
use Rattle.std.proofs.lemmas.Result.{err_from_is_err_and}
use Rattle.file_accept.specs.Accept.{taken}
use Rattle.check_packing.proofs.Answers.{file_refused}
use Rattle.check_packing.proofs.check_packing.Goals as goal

pub returns-in_err-a : goal.returns-in_err-a
returns-in_err-a c =
    let p = err_from_is_err_and c.from_residual.result c.from_residual.ensures.1 in
    rw (p.1, p.2) (file_refused _ _ _ _ c.in_err-a.ensures)

pub list-requires : goal.list-requires
list-requires c = taken _ _ c.in_ok-a.ensures
