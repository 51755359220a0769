-- `vectors::normalise` meets its contract: each call is the definition's, in its order.
use Rattle.vectors.specs.Vectors.{normal_v}
use Rattle.vectors.proofs.normalise.Goals as goal

pub returns : goal.returns
unfolding normal_v
returns c = rw (← c.length.ensures, ← c.div.ensures)
