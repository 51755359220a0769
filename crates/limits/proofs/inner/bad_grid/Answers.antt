-- `limits::inner::bad_grid` meets its contract: the code is the definition, test for test.
use Rattle.limits.specs.Limits.{bad_corners, bad_edges}
use Rattle.limits.proofs.inner.bad_grid.Goals as goal

pub returns : goal.returns
unfolding bad_corners bad_edges
returns c = let k = c in
    rw (k.vector_out_of-low.ensures, k.vector_out_of-high.ensures, k.edges-e.ensures)
