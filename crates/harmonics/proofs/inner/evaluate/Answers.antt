-- `harmonics::inner::evaluate` meets its contract: the code is the definition, operation for operation.
use Rattle.harmonics.specs.Harmonics.{evaluated_at}
use Rattle.harmonics.proofs.inner.evaluate.Goals as goal

pub returns : goal.returns
unfolding evaluated_at
returns c = rw (← c.scale.ensures, ← c.add-one.ensures, ← c.scale-2.ensures, ← c.add-two.ensures, ← c.scale-3.ensures, ← c.add.ensures)
