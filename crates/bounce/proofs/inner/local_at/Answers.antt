-- `bounce::inner::local_at` meets its contract: the lent table is the definition's, and j is below 4.
use Rattle.bounce.specs.Hemisphere.{local_at}
use Rattle.bounce.proofs.inner.local_at.Goals as goal

pub returns : goal.returns
unfolding local_at
returns c = rw (← c.requires.table_value)
