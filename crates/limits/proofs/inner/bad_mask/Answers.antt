-- `limits::inner::bad_mask` meets its contract: the definition is this scan.
use Rattle.limits.specs.Limits.{bad_mask}
use Rattle.limits.proofs.inner.bad_mask.Goals as goal

pub returns : goal.returns
unfolding bad_mask
returns c = c.any_above.ensures
