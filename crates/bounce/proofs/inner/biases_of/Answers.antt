-- `bounce::inner::biases_of` meets its contract: the code is the definition, call for call and operation for operation.
use Rattle.bounce.specs.Biases.{biases_of}
use Rattle.bounce.proofs.inner.biases_of.Goals as goal

pub returns : goal.returns
unfolding biases_of
returns c = rw (← c.larger-primary.ensures, ← c.larger-hit.ensures, ← c.larger-shortest.ensures)
