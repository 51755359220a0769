-- `harmonics::inner::add_weighted` meets its contract: the code is the definition, operation for operation.
use mathlib.Core.Path.{refl}
use Rattle.harmonics.specs.Harmonics.{add_weighted}
use Rattle.harmonics.proofs.inner.add_weighted.Goals as goal

pub returns : goal.returns
unfolding add_weighted
returns c = rw (c.add.ensures, c.scale.ensures) refl
