-- `grid::inner::edges` meets its contract: the code is the definition, operation for operation, with each axis as a float.
use Rattle.grid.specs.Grid.{edges_of}
use Rattle.grid.proofs.inner.edges.Goals as goal

pub returns : goal.returns
unfolding edges_of
returns c = rw (c.float.ensures, c.float-2.ensures, c.float-3.ensures)
