use Rattle.std.proofs.Common.{◌≡◌, ◌++◌, take, drop}
use Rattle.hits.specs.Hits.{paired}
use Rattle.tree_order.specs.Order.{key_on}
use Rattle.tree_order.specs.Ranks.{ranked}
use Rattle.tree_order.proofs.inner.put_ranks.Given as goal

abbrev pub invariant-loop-k : goal.invariant-loop-k
invariant-loop-k l = paired (take l.k l.keys) (take l.k l.ranks) ++ ranked (key_on l.points l.axis) l.k (drop l.k l.run) ≡ ranked (key_on l.points l.axis) 0 l.run
