-- `vectors::scale` meets its contract: the code is the definition, operation for operation.
use mathlib.Core.Path.{refl}
use Rattle.vectors.specs.Vectors.{scale_v}
use Rattle.vectors.proofs.scale.Goals as goal

pub returns : goal.returns
unfolding scale_v
returns c = refl
