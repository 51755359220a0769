-- `harmonics::inner::blend` meets its contract: the code is the definition, operation for operation.
use Rattle.harmonics.specs.Harmonics.{blended_each}
use Rattle.harmonics.proofs.inner.blend.Goals as goal

pub returns : goal.returns
unfolding blended_each
returns c = rw (← c.blend_one-c0.ensures, ← c.blend_one-c1.ensures, ← c.blend_one-c2.ensures, ← c.blend_one-c3.ensures)
