-- `harmonics::inner::add_radiance` meets its contract: the test is the definition's, and each way gives what the definition picks.
use Rattle.harmonics.specs.Harmonics.{added_to}
use Rattle.harmonics.proofs.inner.add_radiance.Goals as goal

pub returns-then-dot : goal.returns-then-dot
unfolding added_to
returns-then-dot c = rw (← c.dot.ensures, c.if-dot.true)

pub returns : goal.returns
unfolding added_to
returns c = rw (← c.dot.ensures, c.if-dot.false, ← c.project.ensures)
