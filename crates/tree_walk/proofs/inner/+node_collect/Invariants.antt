use Rattle.tree_walk.proofs.inner.+node_collect.Given as goal

abbrev pub decreases-node_collect : goal.decreases-node_collect
decreases-node_collect l = l.levels
