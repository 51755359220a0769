-- `grid::inner::centre` meets its contract: the code is the definition, operation for operation.
use Rattle.grid.specs.Grid.{centre_from}
use Rattle.grid.proofs.inner.centre.Goals as goal

pub returns : goal.returns
unfolding centre_from
returns c =
    let k = c.before.before in
    rw (c.add.ensures, c.mul.ensures, k.add-start.ensures, k.scale.ensures, k.float.ensures, k.float-2.ensures, k.float-3.ensures)
