-- "Samples: area/(smallest edge squared)·2, ceiling, clamped to 1..4096; n is the least whole number with n·n at least that. For iu<n, iv<n−iu:
-- u=(iu+0.5)/n, v likewise, w=(1−u)−v, skipped if w<0; point (p0·w+p1·u)+p2·v. Occupied: the floored cell lies in the grid."
-- Each operation is rounded once, in the Rust's order. Assumes nothing.
use Rattle.std.specs.Prelude.{ℕ, zero, suc, ◌+◌, ◌*◌, min, cond, nat_le, nat_lt, Float}
use Rattle.std.specs.Float.Ieee as Ieee
use Rattle.std.specs.Float.{binary32}
use Rattle.std.specs.Float.Ieee.{to_unsigned}
use Rattle.names.specs.Bits.{zero32, half32, one32, two32}
use Rattle.names.specs.Numbers.{most_samples, most_target}
use Rattle.floats.specs.Whole.{ceiling_of}
use Rattle.vectors.specs.declared.Vec3.{Vec3}
use Rattle.vectors.specs.declared.Triangle.{Triangle}
use Rattle.vectors.specs.Vectors.{add_v, sub_v, scale_v, cross_v, length_v}
use Rattle.grid.specs.declared.Axes.{Axes}
use Rattle.grid.specs.Grid.{voxels, index_of, float_of}

-- ---- how many

-- 0.5·length of the cross
abbrev pub area_of : Triangle → Float
area_of t = Ieee.mul binary32 half32 (length_v (cross_v (sub_v t.p1 t.p0) (sub_v t.p2 t.p0)))

-- (area / (e·e))·2, where e is the smallest edge of a voxel
unfoldable pub density_of : Triangle → Float → Float
density_of t e = Ieee.mul binary32 (Ieee.div binary32 (area_of t) (Ieee.mul binary32 e e)) two32

-- its ceiling
abbrev pub target_of : Triangle → Float → Float
target_of t e = ceiling_of (density_of t e)

-- clamped as a number, and only then whole: what is cast lies between 1 and 4,096
unfoldable pub count_of : Float → ℕ
count_of target = cond (Ieee.lt one32 target) (cond (Ieee.lt target most_target) (to_unsigned 64 target) most_samples) 1

abbrev pub sample_count : Triangle → Float → ℕ
sample_count t e = count_of (target_of t e)

-- the first of k numbers from n on whose square is at least s
unfoldable pub side_from : ℕ → ℕ → ℕ → ℕ
side_from s zero n = n
side_from s (suc k) n = cond (nat_lt (n * n) s) (side_from s k (n + 1)) n

-- the least whole number whose square is at least s, which is at most s
unfoldable pub side_of : ℕ → ℕ
side_of s = side_from s s 0

-- ---- where

-- (i + 0.5) / n
unfoldable pub share_of : ℕ → ℕ → Float
share_of i n = Ieee.div binary32 (Ieee.add binary32 (float_of i) half32) (float_of n)

-- (1 − u) − v
abbrev pub rest_of : Float → Float → Float
rest_of u v = Ieee.sub binary32 (Ieee.sub binary32 one32 u) v

-- (p0·w + p1·u) + p2·v
unfoldable pub point_of : Triangle → Float → Float → Float → Vec3
point_of t u v w = add_v (add_v (scale_v t.p0 w) (scale_v t.p1 u)) (scale_v t.p2 v)

-- the third weight of sample (iu, iv) of n a side, and where the sample lies
abbrev pub sample_rest : ℕ → ℕ → ℕ → Float
sample_rest n iu iv = rest_of (share_of iu n) (share_of iv n)

abbrev pub sample_point : Triangle → ℕ → ℕ → ℕ → Vec3
sample_point t n iu iv = point_of t (share_of iu n) (share_of iv n) (sample_rest n iu iv)

-- ---- into which voxel

-- the floored cell on an axis of n, or n where f is below 0 or the cell past the axis; −0 is not below 0
unfoldable pub cell_on : Float → ℕ → ℕ
cell_on f n = cond (Ieee.le zero32 f) (min (to_unsigned 64 f) n) n

-- the voxel's number, or the number of voxels where a coordinate lies outside the grid
unfoldable pub index_within : Axes → ℕ → ℕ → ℕ → ℕ
index_within axes x y z =
    cond (nat_le axes.width x) (voxels axes) (cond (nat_le axes.height y) (voxels axes) (cond (nat_le axes.depth z) (voxels axes) (index_of axes x y z)))

-- (p − min) / edge, on one axis
abbrev pub edges_above : Float → Float → Float → Float
edges_above low edge p = Ieee.div binary32 (Ieee.sub binary32 p low) edge

-- that by component, floored
unfoldable pub cell_of : Axes → Vec3 → Vec3 → Vec3 → ℕ
cell_of axes low edges p =
    index_within axes (cell_on (edges_above low.x edges.x p.x) axes.width)
    (cell_on (edges_above low.y edges.y p.y) axes.height)
    (cell_on (edges_above low.z edges.z p.z) axes.depth)

-- the voxel into which sample (iu, iv) of n a side falls, or the number of voxels where it is skipped or falls outside the grid
unfoldable pub sample_cell : Axes → Vec3 → Vec3 → Triangle → ℕ → ℕ → ℕ → ℕ
sample_cell axes low edges t n iu iv = cond (Ieee.lt (sample_rest n iu iv) zero32) (voxels axes) (cell_of axes low edges (sample_point t n iu iv))
