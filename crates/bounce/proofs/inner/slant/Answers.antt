-- `bounce::inner::slant` meets its contract: the code is the definition, call for call and operation for operation.
use Rattle.bounce.specs.Light.{slant_of}
use Rattle.bounce.proofs.inner.slant.Goals as goal

pub returns : goal.returns
unfolding slant_of
returns c = rw (← c.dot.ensures, ← c.larger.ensures)
