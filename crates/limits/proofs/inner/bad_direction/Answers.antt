-- `limits::inner::bad_direction` meets its contract: the code is the definition, test for test.
use Rattle.limits.specs.Limits.{bad_direction}
use Rattle.limits.proofs.inner.bad_direction.Goals as goal

pub returns : goal.returns
unfolding bad_direction
returns c = rw (c.vector_out_of.ensures, c.dot.ensures)
