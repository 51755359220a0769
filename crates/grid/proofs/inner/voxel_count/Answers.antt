-- `grid::inner::voxel_count` meets its contract: within the limits no product wraps.
use native.Mathlib.Omega.{arith}
use Rattle.grid.specs.GridLaws.{plane_most, voxels_most}
use Rattle.grid.proofs.inner.voxel_count.Goals as goal

pub overflow_mul-result : goal.overflow_mul-result
overflow_mul-result c = omega (arith, plane_most _ c.requires)

pub overflow_mul-result-2 : goal.overflow_mul-result-2
overflow_mul-result-2 c = omega (arith, voxels_most _ c.requires)
