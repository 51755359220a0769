-- One test; then the count of voxels is within its limit.
use native.Mathlib.Omega.{arith}
use Rattle.volume.proofs.Calls.{within, few, bytes_refused, bytes_given}
use Rattle.volume.proofs.volume_bytes.Goals as goal

pub returns-then-bad_axes : goal.returns-then-bad_axes
returns-then-bad_axes c = bytes_refused _ c.if-bad_axes.ensures

pub voxel_count-requires : goal.voxel_count-requires
voxel_count-requires c = within _ c.if-bad_axes.ensures

pub overflow_mul-result : goal.overflow_mul-result
overflow_mul-result c = omega (arith, few _ _ (within _ c.if-bad_axes.ensures) c.voxel_count.ensures)

pub overflow_add-result : goal.overflow_add-result
overflow_add-result c = omega (arith, few _ _ (within _ c.if-bad_axes.ensures) c.voxel_count.ensures)

pub returns : goal.returns
returns c = bytes_given _ _ c.if-bad_axes.ensures c.voxel_count.ensures
