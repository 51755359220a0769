-- `lookup::inner::cells_from` meets its contract: each index is that of its cell.
use Rattle.lookup.specs.Place.{cells_from}
use Rattle.lookup.proofs.inner.cells_from.Goals as goal

pub returns : goal.returns
unfolding cells_from
returns c = rw (c.index.ensures, c.index-2.ensures, c.index-3.ensures, c.index-4.ensures, c.index-5.ensures, c.index-6.ensures, c.index-7.ensures, c.index-8.ensures)
