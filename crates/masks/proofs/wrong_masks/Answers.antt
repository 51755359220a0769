-- `masks::wrong_masks` is the definition. Assumes nothing.
use mathlib.Core.Path.{refl}
use Rattle.masks.specs.Masks.{wrong_masks}
use Rattle.masks.proofs.wrong_masks.Goals as goal

pub returns : goal.returns
unfolding wrong_masks
returns c = rw c.voxel_count.ensures refl
