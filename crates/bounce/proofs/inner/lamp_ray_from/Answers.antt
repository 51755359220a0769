-- `bounce::inner::lamp_ray_from` meets its contract: the code is the definition, call for call and operation for operation.
use mathlib.Core.Path.{refl}
use Rattle.bounce.specs.Lamps.{lamp_ray_from}
use Rattle.bounce.proofs.inner.lamp_ray_from.Goals as goal

pub returns : goal.returns
unfolding lamp_ray_from
returns c = refl
