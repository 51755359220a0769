-- The test x != x finds the NaN, whose pattern is fixed; every other float has the pattern that the machine gives.
use Rattle.bytes_le.proofs.Nan.{fixed, no_nan}
use Rattle.bytes_le.proofs.inner.bits_of.Goals as goal

pub returns-then-x : goal.returns-then-x
returns-then-x c = fixed _ c.if-x.true

pub float_to_bits-result : goal.float_to_bits-result
float_to_bits-result c = no_nan _ c.if-x.false
