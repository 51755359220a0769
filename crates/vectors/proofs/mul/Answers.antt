-- `vectors::mul` meets its contract: the code is the definition, operation for operation.
use mathlib.Core.Path.{refl}
use Rattle.vectors.specs.Vectors.{mul_v}
use Rattle.vectors.proofs.mul.Goals as goal

pub returns : goal.returns
unfolding mul_v
returns c = refl
