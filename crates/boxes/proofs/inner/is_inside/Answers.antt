-- `boxes::inner::is_inside` meets its contract: the code is the definition, call for call.
use Rattle.boxes.specs.Boxes.{inside_of}
use Rattle.boxes.proofs.inner.is_inside.Goals as goal

pub returns : goal.returns
unfolding inside_of
returns c = rw (← c.at_most.ensures, ← c.at_most-2.ensures)
