-- `bounce::inner::sunlight` meets its contract: the code is the definition, call for call and operation for operation.
use Rattle.bounce.specs.Light.{sunlight_of}
use Rattle.bounce.proofs.inner.sunlight.Goals as goal

pub returns : goal.returns
unfolding sunlight_of
returns c = rw (← c.scale.ensures)
