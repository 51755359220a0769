-- `vectors::clamp` meets its contract: each call is the definition's, in its order.
use Rattle.vectors.specs.Vectors.{clamp_of}
use Rattle.vectors.proofs.clamp.Goals as goal

pub returns : goal.returns
unfolding clamp_of
returns c = rw (← c.larger.ensures, ← c.smaller.ensures)
