-- `limits::inner::bad_sky` meets its contract: the definition is this scan.
use Rattle.limits.specs.Limits.{bad_sky}
use Rattle.limits.proofs.inner.bad_sky.Goals as goal

pub returns : goal.returns
unfolding bad_sky
returns c = c.any_out_of.ensures
