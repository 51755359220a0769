-- `bounce::inner::facing` meets its contract: its tests are the definition's, and each way gives what the definition picks.
use Rattle.bounce.specs.Light.{facing_of}
use Rattle.bounce.proofs.inner.facing.Goals as goal

pub returns-then-dot : goal.returns-then-dot
unfolding facing_of
returns-then-dot c = rw (← c.neg.ensures, ← c.dot.ensures, c.if-dot.true, ← c.neg-then-dot.ensures)

pub returns : goal.returns
unfolding facing_of
returns c = rw (← c.neg.ensures, ← c.dot.ensures, c.if-dot.false)
