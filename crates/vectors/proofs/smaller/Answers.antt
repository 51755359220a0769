-- `vectors::smaller` meets its contract: each call is the definition's, in its order.
use Rattle.vectors.specs.Vectors.{smaller_v}
use Rattle.vectors.proofs.smaller.Goals as goal

pub returns : goal.returns
unfolding smaller_v
returns c = rw (← c.smaller.ensures, ← c.smaller-2.ensures, ← c.smaller-3.ensures)
