-- `lookup::inner::cells` meets its contract: the places along the three axes are those of the definition, and lie within the axes.
use Rattle.lookup.specs.Place.{cells_of}
use Rattle.lookup.specs.PlaceLaws.{cells_inside}
use Rattle.lookup.proofs.inner.cells.Goals as goal

pub returns : goal.returns
unfolding cells_of
returns c = let p = c.between-x.ensures in
    let q = c.between-y.ensures in
    let r = c.between-z.ensures in
    record {
      same = rw (c.cells_from.ensures, p.same, q.same, r.same, c.edges-e.ensures);
      inside = rw c.cells_from.ensures (cells_inside _ _ _ _ (record { x = p.cell; x' = p.next; y = q.cell; y' = q.next; z = r.cell; z' = r.next }));
    }
