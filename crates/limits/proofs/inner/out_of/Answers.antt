-- `limits::inner::out_of` meets its contract: the code is the definition, test for test.
use mathlib.Core.Path.{refl}
use Rattle.limits.specs.Limits.{within}
use Rattle.limits.proofs.inner.out_of.Goals as goal

pub returns : goal.returns
unfolding within
returns c = refl
