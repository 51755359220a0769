-- `tree_order::inner::put_ranks`: what is written and what is left of the run are the keys and ranks of the run.
use Rattle.std.proofs.Common.{◌∙◌, arith}
use Rattle.tree_order.specs.Order.{key_on}
use Rattle.tree_order.proofs.Steps.{ranked_next}
use Rattle.tree_order.proofs.inner.put_ranks.Goals as goal

pub loop-k-preserved : goal.loop-k-preserved
loop-k-preserved c =
    let l = c.loop-k in
    let a = c.args in
    rw (c.on_axis.ensures, c.key.ensures)
    (ranked_next (key_on a.points.now a.axis) a.run.now l.k l.keys l.ranks (omega arith) (omega arith) (omega arith) ∙ l.invariant)
