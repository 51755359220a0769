-- `blurs::wrong_lists` is the definition; the product stays small, since a grid within the limits has few voxels. Assumes nothing.
use mathlib.Core.Path.{refl}
use native.Mathlib.Omega.{arith}
use native.Mathlib.Nat.{mul-le-mul}
use Rattle.grid.specs.GridLaws.{voxels_most}
use Rattle.blurs.specs.Blurs.{wrong_blur_lists}
use Rattle.blurs.proofs.wrong_lists.Goals as goal

pub overflow_mul-n : goal.overflow_mul-n
overflow_mul-n c = rw c.voxel_count.ensures (omega (arith, mul-le-mul (voxels_most c.args.axes c.requires.0) c.requires.1))

pub returns : goal.returns
unfolding wrong_blur_lists
returns c = rw c.voxel_count.ensures refl
