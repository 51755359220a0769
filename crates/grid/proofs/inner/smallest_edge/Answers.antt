-- `grid::inner::smallest_edge` meets its contract: the code is the definition, operation for operation.
use Rattle.grid.specs.Grid.{smallest_edge_of}
use Rattle.grid.proofs.inner.smallest_edge.Goals as goal

pub returns : goal.returns
unfolding smallest_edge_of
returns c = rw (c.larger.ensures, c.smaller-2.ensures, c.smaller.ensures)
