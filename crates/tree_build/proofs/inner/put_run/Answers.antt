-- `tree_build::inner::put_run` meets its contract: a box is its two corners.
use Rattle.tree_build.specs.WriteLaws.{bounds_put}
use Rattle.tree_build.proofs.inner.put_run.Goals as goal

pub returns : goal.returns
returns c = rw (← c.run_bounds-b.ensures) (bounds_put _ _ _ _ c.run_bounds-b.result c.put_vec.ensures c.put_vec-2.ensures)
