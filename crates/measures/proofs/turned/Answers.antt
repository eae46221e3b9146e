-- `measures::turned` meets its contract: each place has its axis.
use Rattle.measures.proofs.turned.Goals as goal

pub returns : goal.returns
returns c = rw (c.axis-h.ensures.0, c.axis-d.ensures.0, c.axis-w.ensures.0)
