-- `vectors::inner::point_at` meets its contract: the code is the definition, call for call and operation for operation.
use Rattle.vectors.specs.Rays.{point_at}
use Rattle.vectors.proofs.inner.point_at.Goals as goal

pub returns : goal.returns
unfolding point_at
returns c = rw (← c.scale.ensures, ← c.add.ensures)
