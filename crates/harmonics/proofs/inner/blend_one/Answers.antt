-- `harmonics::inner::blend_one` meets its contract: the code is the definition, operation for operation.
use Rattle.harmonics.specs.Harmonics.{blended_v}
use Rattle.harmonics.proofs.inner.blend_one.Goals as goal

pub returns : goal.returns
unfolding blended_v
returns c = rw (← c.scale.ensures, ← c.lerp.ensures)
