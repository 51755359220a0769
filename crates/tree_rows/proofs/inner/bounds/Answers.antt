-- `tree_rows::inner::bounds` meets its contract: each corner stands where the definition reads it.
use Rattle.tree_rows.specs.Rows.{row_bounds}
use Rattle.tree_rows.proofs.inner.bounds.Goals as goal

pub returns : goal.returns
unfolding row_bounds
returns c = rw (← c.vec_at-low.ensures, ← c.vec_at-high.ensures)
