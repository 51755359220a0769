-- `limits::inner::bad_lights` meets its contract: the definition is this scan.
use Rattle.limits.specs.Limits.{bad_lights}
use Rattle.limits.proofs.inner.bad_lights.Goals as goal

pub returns : goal.returns
unfolding bad_lights
returns c = c.any_out_of.ensures
