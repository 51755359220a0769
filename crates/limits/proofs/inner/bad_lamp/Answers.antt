-- `limits::inner::bad_lamp` meets its contract: the code is the definition, test for test.
use Rattle.limits.specs.Limits.{bad_lamp}
use Rattle.limits.proofs.inner.bad_lamp.Goals as goal

pub returns : goal.returns
unfolding bad_lamp
returns c = rw (c.vector_out_of.ensures, c.bad_colour.ensures)
