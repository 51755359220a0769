-- `bounce::inner::face_normal` meets its contract: the code is the definition, call for call and operation for operation.
use Rattle.bounce.specs.Light.{face_normal}
use Rattle.bounce.proofs.inner.face_normal.Goals as goal

pub returns : goal.returns
unfolding face_normal
returns c = rw (← c.sub-one.ensures, ← c.sub-two.ensures, ← c.cross.ensures, ← c.normalise.ensures)
