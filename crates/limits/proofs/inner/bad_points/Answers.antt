-- `limits::inner::bad_points` meets its contract: the definition is this scan.
use Rattle.limits.specs.Limits.{bad_points}
use Rattle.limits.proofs.inner.bad_points.Goals as goal

pub returns : goal.returns
unfolding bad_points
returns c = c.any_out_of.ensures
