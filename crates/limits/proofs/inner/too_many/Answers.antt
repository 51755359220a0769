-- `limits::inner::too_many` meets its contract: the code is the definition, test for test.
use mathlib.Core.Path.{refl}
use Rattle.limits.specs.Limits.{too_many}
use Rattle.limits.proofs.inner.too_many.Goals as goal

pub returns : goal.returns
unfolding too_many
returns c = refl
