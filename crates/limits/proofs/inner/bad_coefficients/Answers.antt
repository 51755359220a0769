-- `limits::inner::bad_coefficients` meets its contract: the definition is this scan.
use Rattle.limits.specs.Limits.{bad_coefficients}
use Rattle.limits.proofs.inner.bad_coefficients.Goals as goal

pub returns : goal.returns
unfolding bad_coefficients
returns c = c.any_out_of.ensures
