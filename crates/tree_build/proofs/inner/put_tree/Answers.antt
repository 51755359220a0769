-- `tree_build::inner::put_tree` meets its contract: no box for no place.
use Rattle.tree_build.specs.GrownLaws.{none_put}
use Rattle.tree_build.proofs.inner.put_tree.Goals as goal

pub returns-then-m-eq0 : goal.returns-then-m-eq0
returns-then-m-eq0 c =
    let a = c.args in
    rw c.if-m-eq0.true (none_put a.points.now a.boxes.now a.boxes.now a.nodes.now a.nodes.now a.order.now)
