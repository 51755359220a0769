-- `bounce::inner::reflect` meets its contract: its tests are the definition's, and each way gives what the definition picks.
use Rattle.bounce.specs.Light.{reflected_of, bounced_of}
use Rattle.bounce.proofs.inner.reflect.Goals as goal

pub returns-then-dot : goal.returns-then-dot
unfolding reflected_of bounced_of
returns-then-dot c = rw (← c.raise-raised.ensures, ← c.dot.ensures, c.if-dot.true, ← c.div.ensures, ← c.mul.ensures, ← c.add.ensures)

pub returns : goal.returns
unfolding reflected_of bounced_of
returns c = rw (← c.raise-raised.ensures, ← c.dot.ensures, c.if-dot.false, ← c.add-2.ensures)
