use Rattle.std.proofs.Common.{length}
use Rattle.hits.proofs.inner.+by_halves.Given as goal

abbrev pub decreases-by_halves : goal.decreases-by_halves
decreases-by_halves l = length l.distances.now
