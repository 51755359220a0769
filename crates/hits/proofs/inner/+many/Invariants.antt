use Rattle.std.proofs.Common.{length}
use Rattle.hits.proofs.inner.+many.Given as goal

abbrev pub decreases-many : goal.decreases-many
decreases-many l = length l.distances.now
