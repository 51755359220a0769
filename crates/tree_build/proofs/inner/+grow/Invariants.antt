use Rattle.tree_build.proofs.inner.+grow.Given as goal

abbrev pub decreases-grow : goal.decreases-grow
decreases-grow l = l.count
