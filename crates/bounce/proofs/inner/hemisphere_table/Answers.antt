-- `bounce::inner::hemisphere_table` meets its contract: the code is the definition, call for call and operation for operation.
use mathlib.Core.Path.{refl}
use Rattle.bounce.specs.Hemisphere.{hemisphere}
use Rattle.bounce.proofs.inner.hemisphere_table.Goals as goal

pub returns : goal.returns
unfolding hemisphere
returns c = refl
