-- `vectors::add` meets its contract: the code is the definition, operation for operation.
use mathlib.Core.Path.{refl}
use Rattle.vectors.specs.Vectors.{add_v}
use Rattle.vectors.proofs.add.Goals as goal

pub returns : goal.returns
unfolding add_v
returns c = refl
