-- `boxes::inner::bounds_at` meets its contract: each corner stands where the definition reads it.
use Rattle.boxes.specs.Boxes.{bounds_at}
use Rattle.boxes.proofs.inner.bounds_at.Goals as goal

pub returns : goal.returns
unfolding bounds_at
returns c = rw (← c.vec_at-low.ensures, ← c.vec_at-high.ensures)
