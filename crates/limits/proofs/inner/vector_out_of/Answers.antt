-- `limits::inner::vector_out_of` meets its contract: the code is the definition, test for test.
use Rattle.limits.specs.Limits.{outside_v}
use Rattle.limits.proofs.inner.vector_out_of.Goals as goal

pub returns : goal.returns
unfolding outside_v
returns c = rw (c.out_of.ensures, c.out_of-2.ensures, c.out_of-3.ensures)
