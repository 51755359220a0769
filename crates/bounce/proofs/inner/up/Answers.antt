-- `bounce::inner::up` meets its contract: its tests are the definition's, and each way gives what the definition picks.
use Rattle.bounce.specs.Hemisphere.{up_of}
use Rattle.bounce.proofs.inner.up.Goals as goal

pub returns-then-magnitude : goal.returns-then-magnitude
unfolding up_of
returns-then-magnitude c = rw (← c.magnitude.ensures, c.if-magnitude.true)

pub returns : goal.returns
unfolding up_of
returns c = rw (← c.magnitude.ensures, c.if-magnitude.false)
