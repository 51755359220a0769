-- `vectors::dot` meets its contract: the code is the definition, operation for operation.
use mathlib.Core.Path.{refl}
use Rattle.vectors.specs.Vectors.{dot_v}
use Rattle.vectors.proofs.dot.Goals as goal

pub returns : goal.returns
unfolding dot_v
returns c = refl
