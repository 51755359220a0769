-- `vectors::length` meets its contract: each call is the definition's, in its order.
use Rattle.vectors.specs.Vectors.{length_v}
use Rattle.vectors.proofs.length.Goals as goal

pub returns : goal.returns
unfolding length_v
returns c = rw (← c.dot.ensures, ← c.root.ensures)
