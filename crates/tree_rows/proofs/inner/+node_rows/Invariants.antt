use Rattle.tree_rows.proofs.inner.+node_rows.Given as goal

abbrev pub decreases-node_rows : goal.decreases-node_rows
decreases-node_rows l = l.levels
