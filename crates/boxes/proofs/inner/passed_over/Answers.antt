-- `boxes::inner::passed_over_lem` meets its contract: each axis is the definition's, in its order.
use Rattle.boxes.specs.Boxes.{passed_over}
use Rattle.boxes.proofs.inner.passed_over.Goals as goal

pub returns : goal.returns
unfolding passed_over
returns c = rw (← c.is_beyond-x.ensures, ← c.is_beyond-y.ensures, ← c.is_beyond-z.ensures)
