-- `limits::inner::lamp_at` meets its contract: position and colour stand where the definition reads them, and lie within the list.
use Rattle.limits.specs.Limits.{lamp_at}
use Rattle.limits.proofs.inner.lamp_at.Goals as goal

pub returns : goal.returns
unfolding lamp_at
returns c = rw (← c.vec_at-position.ensures, ← c.vec_at-colour.ensures)
