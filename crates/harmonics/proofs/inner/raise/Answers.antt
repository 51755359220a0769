-- `harmonics::inner::raise` meets its contract: the code is the definition, operation for operation.
use Rattle.harmonics.specs.Harmonics.{raised_v}
use Rattle.harmonics.proofs.inner.raise.Goals as goal

pub returns : goal.returns
unfolding raised_v
returns c = rw (← c.larger.ensures)
