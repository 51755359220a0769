-- `boxes::inner::is_beyond` meets its contract: the code is the definition, test for test.
use mathlib.Core.Path.{refl}
use Rattle.boxes.specs.Boxes.{beyond}
use Rattle.boxes.proofs.inner.is_beyond.Goals as goal

pub returns : goal.returns
unfolding beyond
returns c = refl
