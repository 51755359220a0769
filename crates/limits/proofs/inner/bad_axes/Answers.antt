-- `limits::inner::bad_axes` meets its contract: the code is the definition, test for test.
use mathlib.Core.Path.{refl}
use Rattle.limits.specs.Limits.{bad_axes}
use Rattle.limits.proofs.inner.bad_axes.Goals as goal

pub returns : goal.returns
unfolding bad_axes
returns c = refl
