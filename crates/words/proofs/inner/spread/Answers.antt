-- `words::inner::spread` is the definition; what the mask leaves has room for the sum. Assumes nothing.
use mathlib.Core.Path.{refl}
use Rattle.words.specs.ByWords.{spread_of}
use Rattle.words.proofs.inner.spread.Goals as goal

pub returns : goal.returns
unfolding spread_of
returns c = refl
