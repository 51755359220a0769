use Rattle.std.proofs.Common.{length}
use Rattle.tree_order.proofs.inner.+halve.Given as goal

abbrev pub decreases-halve : goal.decreases-halve
decreases-halve l = length l.run.now
