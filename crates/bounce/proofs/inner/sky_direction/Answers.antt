-- `bounce::inner::sky_direction` meets its contract: the code is the definition, call for call and operation for operation.
use Rattle.bounce.proofs.inner.sky_direction.Goals as goal

pub returns : goal.returns
returns c = rw (← c.local_at.ensures, ← c.turn.ensures)
