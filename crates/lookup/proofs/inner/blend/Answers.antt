-- `lookup::inner::blend` meets its contract: the code is the definition, operation for operation.
use Rattle.std.proofs.Common.{refl}
use Rattle.lookup.specs.Place.{blend_of}
use Rattle.lookup.proofs.inner.blend.Goals as goal

pub returns : goal.returns
unfolding blend_of
returns c = refl
