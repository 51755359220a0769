-- `bounce::inner::skylight` meets its contract: the code is the definition, call for call and operation for operation.
use Rattle.bounce.specs.Light.{skylight_of}
use Rattle.bounce.proofs.inner.skylight.Goals as goal

pub returns : goal.returns
unfolding skylight_of
returns c = rw (← c.evaluate.ensures, ← c.raise.ensures, ← c.scale.ensures)
