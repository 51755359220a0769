-- `vectors::larger` meets its contract: each call is the definition's, in its order.
use Rattle.vectors.specs.Vectors.{larger_v}
use Rattle.vectors.proofs.larger.Goals as goal

pub returns : goal.returns
unfolding larger_v
returns c = rw (← c.larger.ensures, ← c.larger-2.ensures, ← c.larger-3.ensures)
