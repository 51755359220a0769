-- The four comparisons are the definition's.
use mathlib.Core.Path.{refl}
use Rattle.contents.specs.Contents.{marked}
use Rattle.contents.proofs.inner.is_marked.Goals as goal

pub returns : goal.returns
unfolding marked
returns c = refl
