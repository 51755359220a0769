-- `boxes::inner::at_most` meets its contract: the code is the definition, test for test.
use mathlib.Core.Path.{refl}
use lib.Ieee.{le}
use Rattle.boxes.specs.Boxes.{at_most}
use Rattle.boxes.proofs.inner.at_most.Goals as goal

pub returns : goal.returns
unfolding at_most le
returns c = refl
