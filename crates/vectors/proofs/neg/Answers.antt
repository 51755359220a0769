-- `vectors::neg` meets its contract: the code is the definition, operation for operation.
use mathlib.Core.Path.{refl}
use Rattle.vectors.specs.Vectors.{neg_v}
use Rattle.vectors.proofs.neg.Goals as goal

pub returns : goal.returns
unfolding neg_v
returns c = refl
