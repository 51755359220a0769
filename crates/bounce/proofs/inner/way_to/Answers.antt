-- `bounce::inner::way_to` meets its contract: the code is the definition, call for call and operation for operation.
use Rattle.bounce.specs.Lamps.{way_to}
use Rattle.bounce.proofs.inner.way_to.Goals as goal

pub returns : goal.returns
unfolding way_to
returns c = rw (← c.sub-v.ensures, ← c.normalise-unit.ensures, ← c.dot.ensures, ← c.length.ensures)
