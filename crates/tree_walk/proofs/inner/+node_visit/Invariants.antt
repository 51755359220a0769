use Rattle.tree_walk.proofs.inner.+node_visit.Given as goal

abbrev pub decreases-node_visit : goal.decreases-node_visit
decreases-node_visit l = l.levels
