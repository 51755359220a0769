-- `vectors::lerp` meets its contract: each call is the definition's, in its order.
use Rattle.vectors.specs.Vectors.{lerp_v}
use Rattle.vectors.proofs.lerp.Goals as goal

pub returns : goal.returns
unfolding lerp_v
returns c = rw (← c.scale.ensures, ← c.scale-2.ensures, ← c.add.ensures)
