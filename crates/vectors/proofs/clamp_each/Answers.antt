-- `vectors::clamp_each` meets its contract: each call is the definition's, in its order.
use Rattle.vectors.specs.Vectors.{clamp_v}
use Rattle.vectors.proofs.clamp_each.Goals as goal

pub returns : goal.returns
unfolding clamp_v
returns c = rw (← c.clamp.ensures, ← c.clamp-2.ensures, ← c.clamp-3.ensures)
