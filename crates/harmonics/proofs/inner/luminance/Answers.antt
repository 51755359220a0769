-- `harmonics::inner::luminance` meets its contract: the code is the definition, operation for operation.
use mathlib.Core.Path.{refl}
use Rattle.harmonics.specs.Harmonics.{luminance_of}
use Rattle.harmonics.proofs.inner.luminance.Goals as goal

pub returns : goal.returns
unfolding luminance_of
returns c = refl
