-- `limits::inner::bad_light` meets its contract: the code is the definition, test for test.
use Rattle.limits.specs.Limits.{bad_light}
use Rattle.limits.proofs.inner.bad_light.Goals as goal

pub returns : goal.returns
unfolding bad_light
returns c = rw (c.bad_direction.ensures, c.bad_colour.ensures)
