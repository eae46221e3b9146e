-- `measures::container_fault` meets its contract, by what each range test says.
use Rattle.measures.specs.Faults.{container_fault}
use Rattle.measures.proofs.container_fault.Goals as goal

pub returns : goal.returns
unfolding container_fault
returns c = cc
