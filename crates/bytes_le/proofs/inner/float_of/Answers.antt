-- A pattern above the infinity's is a NaN's, and 0 / 0 is the NaN; every other pattern is taken as it stands.
use Rattle.bytes_le.proofs.Nan.{of_nan, of_number}
use Rattle.bytes_le.proofs.inner.float_of.Goals as goal

pub returns-then-bits-gt-INFINITY : goal.returns-then-bits-gt-INFINITY
returns-then-bits-gt-INFINITY c = of_nan _ c.if-bits-gt-INFINITY.true

pub float_from_bits-result : goal.float_from_bits-result
float_from_bits-result c = of_number _ c.if-bits-gt-INFINITY.false
