-- `vectors::sub` meets its contract: the code is the definition, operation for operation.
use mathlib.Core.Path.{refl}
use Rattle.vectors.specs.Vectors.{sub_v}
use Rattle.vectors.proofs.sub.Goals as goal

pub returns : goal.returns
unfolding sub_v
returns c = refl
