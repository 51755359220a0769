-- `tree_walk::inner::span_nearest` meets its contract. The loop's invariant: what is held is what the triangles of the span before place k come to.
use native.Mathlib.Omega.{arith}
use Rattle.tree_walk.proofs.Going.{nearest_on, nearest_ends}
use Rattle.tree_walk.proofs.inner.span_nearest.Goals as goal

pub loop-j-preserved : goal.loop-j-preserved
loop-j-preserved c =
    let at = c.loop-j.invariant in
    let first = c.in-Some.ensures in
    (omega (arith, first.0), omega (arith, first.1), nearest_on _ _ _ _ _ _ _ _ _ at.0 at.2 _ _ first _ c.nearer-held.ensures)

pub returns : goal.returns
returns c =
    let at = c.loop-j.invariant in
    nearest_ends _ _ _ _ _ _ _ _ _ at.0 at.2 _ at.1 c.in_default.ensures
