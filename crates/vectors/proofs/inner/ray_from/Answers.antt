-- `vectors::inner::ray_from` meets its contract: the code is the definition, call for call and operation for operation.
use Rattle.vectors.specs.Rays.{ray_from}
use Rattle.vectors.proofs.inner.ray_from.Goals as goal

pub returns : goal.returns
unfolding ray_from
returns c = rw (← c.point_at-origin.ensures, ← c.infinity.ensures)
