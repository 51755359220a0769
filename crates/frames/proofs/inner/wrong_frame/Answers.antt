-- `frames::inner::wrong_frame` is the definition, test for test.
use mathlib.Core.Path.{refl}
use Rattle.frames.specs.Frames.{wrong_frame}
use Rattle.frames.proofs.inner.wrong_frame.Goals as goal

pub returns : goal.returns
unfolding wrong_frame
returns c = rw c.wrong_share.ensures refl
