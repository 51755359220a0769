-- `harmonics::inner::raise_each` meets its contract: the code is the definition, operation for operation.
use Rattle.harmonics.specs.Harmonics.{raised_of}
use Rattle.harmonics.proofs.inner.raise_each.Goals as goal

pub returns : goal.returns
unfolding raised_of
returns c = rw (← c.raise-c0.ensures, ← c.raise-c1.ensures, ← c.raise-c2.ensures, ← c.raise-c3.ensures)
