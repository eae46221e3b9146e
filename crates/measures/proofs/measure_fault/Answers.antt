-- `measures::measure_fault` meets its contract, by what each range test says.
use Rattle.measures.proofs.measure_fault.Goals as goal

pub returns : goal.returns
returns c = cc
