-- `harmonics::inner::irradiance` meets its contract: the code is the definition, operation for operation.
use Rattle.harmonics.specs.Harmonics.{irradiance_of}
use Rattle.harmonics.proofs.inner.irradiance.Goals as goal

pub returns : goal.returns
unfolding irradiance_of
returns c = rw (← c.scale-c0.ensures, ← c.scale-c1.ensures, ← c.scale-c2.ensures, ← c.scale-c3.ensures)
