-- `bounce::inner::unlit` meets its contract: the code is the definition, call for call and operation for operation.
use Rattle.bounce.specs.Lamps.{unlit_by}
use Rattle.bounce.proofs.inner.unlit.Goals as goal

pub returns : goal.returns
unfolding unlit_by
returns c = rw (← c.dot.ensures)
