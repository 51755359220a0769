-- `bounce::inner::turn` meets its contract: the code is the definition, call for call and operation for operation.
use Rattle.bounce.specs.Hemisphere.{turned_by}
use Rattle.bounce.proofs.inner.turn.Goals as goal

pub returns : goal.returns
unfolding turned_by
returns c = rw (← c.scale.ensures, ← c.scale-2.ensures, ← c.add-flat.ensures, ← c.scale-3.ensures, ← c.add.ensures, ← c.normalise.ensures)
