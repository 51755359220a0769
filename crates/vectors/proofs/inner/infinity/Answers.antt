-- `vectors::inner::infinity` meets its contract: the pattern is no NaN's, and the definition's own.
use lib.Ieee.{nan_bits}
use Rattle.vectors.proofs.inner.infinity.Goals as goal

pub float_from_bits-result : goal.float_from_bits-result
unfolding nan_bits
float_from_bits-result c = tt
