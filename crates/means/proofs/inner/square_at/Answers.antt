-- `means::inner::square_at` is the definition: the mean at stride 1, squared. Assumes nothing.
use mathlib.Core.Path.{refl}
use Rattle.means.specs.Box.{square_at}
use Rattle.means.proofs.inner.square_at.Goals as goal

pub returns : goal.returns
unfolding square_at
returns c = rw c.mean_at-q.ensures refl
