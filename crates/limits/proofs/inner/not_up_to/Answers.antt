-- `limits::inner::not_up_to` meets its contract: the code is the definition, test for test.
use mathlib.Core.Path.{refl}
use Rattle.limits.specs.Limits.{up_to}
use Rattle.limits.proofs.inner.not_up_to.Goals as goal

pub returns : goal.returns
unfolding up_to
returns c = refl
