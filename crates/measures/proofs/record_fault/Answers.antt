-- `measures::record_fault` meets its contract: the bits that it tests are the mass's.
use Rattle.measures.proofs.record_fault.Goals as goal

pub returns : goal.returns
returns c = cc
