-- `limits::inner::wrong_share` meets its contract: the code is the definition, test for test.
use mathlib.Core.Path.{refl}
use Rattle.limits.specs.Limits.{wrong_share}
use Rattle.limits.proofs.inner.wrong_share.Goals as goal

pub returns : goal.returns
unfolding wrong_share
returns c = refl
