-- The test is the definition's.
use lib.Ieee.{of_bits, le}
use Rattle.limits.specs.Limits.{up_to}
use Rattle.light_units.specs.Units.{light_outside}
use Rattle.std.proofs.Common.{rules}
use Rattle.light_units.proofs.inner.is_outside.Goals as goal

pub returns : goal.returns
unfolding le light_outside of_bits up_to
returns c = search rules
