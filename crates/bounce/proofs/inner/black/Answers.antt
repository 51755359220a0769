-- `bounce::inner::black` meets its contract: its tests are the definition's, and each way gives what the definition picks.
use mathlib.Core.Path.{◌≡◌, refl}
use mathlib.Core.Bool.{Bool, true, false, cond}
use Rattle.bounce.specs.Light.{black_of}
use Rattle.bounce.proofs.inner.black.Goals as goal

-- what the first test comes to picks
picks : (t u b : Bool) → t ≡ u → cond u b false ≡ cond t b false
picks t u b e = rw e refl

pub returns-then-dot : goal.returns-then-dot
unfolding black_of
returns-then-dot c = rw c.dot-then-dot.ensures (picks _ true _ (rw c.dot.ensures at c.if-dot.true))

pub returns : goal.returns
unfolding black_of
returns c = picks _ false _ (rw c.dot.ensures at c.if-dot.false)
