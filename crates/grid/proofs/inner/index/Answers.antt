-- `grid::inner::index` meets its contract: a row lies below depth times height, the index below the number of voxels, so nothing wraps.
use Prim.Native.Nat.{ℕ, ◌+◌, ◌*◌, ◌<◌}
use native.Mathlib.Omega.{arith}
use Rattle.names.specs.Numbers.{axis_limit, voxel_limit}
use Rattle.lists.specs.Fold.{place}
use Rattle.grid.specs.declared.Axes.{Axes}
use Rattle.grid.specs.Grid.{index_of, AxesWithin}
use Rattle.grid.specs.GridLaws.{index_within_lem, plane_most, voxels_most}
use Rattle.grid.proofs.inner.index.Goals as goal

small : (a : Axes) (x y z : ℕ) → AxesWithin a → (x < a.width) × (y < a.height) × (z < a.depth) → (z * a.height + y < axis_limit * axis_limit) × (index_of a x y z < voxel_limit)
small a x y z w h =
    let p = place h.2 h.1 in
    (omega (arith, p, plane_most a w), omega (arith, index_within_lem a x y z h.0 h.1 h.2, voxels_most a w))

pub overflow_mul-result : goal.overflow_mul-result
overflow_mul-result c = let k = c.before in omega (arith, small _ k.args.x k.args.y k.args.z k.requires.axes_within k.requires.x_lt_width)

pub overflow_add-result : goal.overflow_add-result
overflow_add-result c = let k = c.before in omega (arith, small _ k.args.x k.args.y k.args.z k.requires.axes_within k.requires.x_lt_width)

pub overflow_mul-result-2 : goal.overflow_mul-result-2
overflow_mul-result-2 c = let k = c.before.before in omega (arith, small _ k.args.x k.args.y k.args.z k.requires.axes_within k.requires.x_lt_width)

pub overflow_add-result-2 : goal.overflow_add-result-2
overflow_add-result-2 c = let k = c.before.before in omega (arith, small _ k.args.x k.args.y k.args.z k.requires.axes_within k.requires.x_lt_width)
