-- `vectors::div` meets its contract: the code is the definition, operation for operation.
use mathlib.Core.Path.{refl}
use Rattle.vectors.specs.Vectors.{div_v}
use Rattle.vectors.proofs.div.Goals as goal

pub returns : goal.returns
unfolding div_v
returns c = refl
