-- `limits::inner::bad_ambient` meets its contract: the code is the definition, test for test.
use Rattle.limits.specs.Limits.{bad_ambient}
use Rattle.limits.proofs.inner.bad_ambient.Goals as goal

pub returns : goal.returns
unfolding bad_ambient
returns c = rw (c.bad_colour.ensures, c.bad_colour-2.ensures, c.bad_colour-3.ensures, c.bad_colour-4.ensures)
