-- `harmonics::inner::project` meets its contract: the code is the definition, call for call and operation for operation.
use Rattle.harmonics.specs.Harmonics.{projected}
use Rattle.harmonics.proofs.inner.project.Goals as goal

pub returns : goal.returns
unfolding projected
returns c = rw (← c.add_weighted-c0.ensures, ← c.add_weighted-c1.ensures, ← c.add_weighted-c2.ensures, ← c.add_weighted-c3.ensures)
