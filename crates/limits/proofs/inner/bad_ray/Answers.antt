-- `limits::inner::bad_ray` meets its contract: the code is the definition, test for test, and a number differs from itself exactly where it is none.
use Rattle.limits.specs.Limits.{bad_ray}
use Rattle.limits.specs.LimitsLaws.{differs}
use Rattle.limits.proofs.inner.bad_ray.Goals as goal

pub returns : goal.returns
unfolding bad_ray
returns c = let k = c in
    rw (k.vector_out_of-origin.ensures, k.vector_out_of-direction.ensures, k.not_up_to-ends.ensures, differs)
