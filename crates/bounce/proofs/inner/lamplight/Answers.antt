-- `bounce::inner::lamplight` meets its contract: the code is the definition, call for call and operation for operation.
use Rattle.bounce.specs.Lamps.{lamplight_of}
use Rattle.bounce.proofs.inner.lamplight.Goals as goal

pub returns : goal.returns
unfolding lamplight_of
returns c = rw (← c.dot.ensures, ← c.scale.ensures, ← c.scale-2.ensures)
