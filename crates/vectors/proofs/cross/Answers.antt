-- `vectors::cross` meets its contract: the code is the definition, operation for operation.
use mathlib.Core.Path.{refl}
use Rattle.vectors.specs.Vectors.{cross_v}
use Rattle.vectors.proofs.cross.Goals as goal

pub returns : goal.returns
unfolding cross_v
returns c = refl
