-- `limits::inner::bad_triangle` meets its contract: the code is the definition, test for test.
use Rattle.limits.specs.Limits.{bad_triangle}
use Rattle.limits.proofs.inner.bad_triangle.Goals as goal

pub returns : goal.returns
unfolding bad_triangle
returns c = rw (c.vector_out_of.ensures, c.vector_out_of-2.ensures, c.vector_out_of-3.ensures)
