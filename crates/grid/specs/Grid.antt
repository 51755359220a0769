-- A grid of voxels. Voxel (x, y, z) of a grid W by H by D has the index x + W·(y + H·z). An edge is (max − min) / axis by component,
-- a voxel's centre (min + edge·0.5) + index·edge by component, each operation rounded once. Assumes nothing.
use Rattle.std.specs.Prelude.{ℕ, ◌+◌, ◌*◌, ◌/◌, ◌%◌, ◌≤◌, pos, Float}
use Rattle.std.specs.Float.Ieee as Ieee
use Rattle.std.specs.Float.{binary32}
use Rattle.std.specs.Float.Ieee.{of_int}
use Rattle.names.specs.Bits.{lit, half32}
use Rattle.names.specs.Numbers.{axis_limit}
use Rattle.vectors.specs.declared.Vec3.{Vec3}
use Rattle.floats.specs.Choice.{larger_of, smaller_of}
use Rattle.vectors.specs.Vectors.{vec, add_v, mul_v, scale_v, length_v}
use Rattle.grid.specs.declared.Axes.{Axes}
use Rattle.grid.specs.declared.Corners.{Corners}

-- ---- axes and indices

-- the number of voxels
abbrev pub voxels : Axes → ℕ
voxels a = a.depth * a.height * a.width

-- x + W·(y + H·z)
abbrev pub index_of : Axes → ℕ → ℕ → ℕ → ℕ
index_of a x y z = (z * a.height + y) * a.width + x

-- the coordinates of an index
abbrev pub x_of : Axes → ℕ → ℕ
x_of a i = i % a.width

abbrev pub y_of : Axes → ℕ → ℕ
y_of a i = i / a.width % a.height

abbrev pub z_of : Axes → ℕ → ℕ
z_of a i = i / a.width / a.height

-- each axis 1..most
pub record AxesUnder (most : ℕ) (a : Axes) : Type 0 where
  pub width : 1 ≤ a.width
  pub widest : a.width ≤ most
  pub height : 1 ≤ a.height
  pub highest : a.height ≤ most
  pub depth : 1 ≤ a.depth
  pub deepest : a.depth ≤ most

-- "Axes rise to 1..128."
abbrev pub AxesWithin : Axes → Type 0
AxesWithin a = AxesUnder axis_limit a

-- ---- edges and centres

-- a small whole number as an f32
abbrev pub float_of : ℕ → Float
float_of n = of_int binary32 (pos n)

unfoldable pub edges_of : Corners → Axes → Vec3
edges_of c a =
    vec (Ieee.div binary32 (Ieee.sub binary32 c.max.x c.min.x) (float_of a.width))
    (Ieee.div binary32 (Ieee.sub binary32 c.max.y c.min.y) (float_of a.height))
    (Ieee.div binary32 (Ieee.sub binary32 c.max.z c.min.z) (float_of a.depth))

-- the centre of voxel (x, y, z) of a grid whose lower corner and edges are given
unfoldable pub centre_from : Vec3 → Vec3 → ℕ → ℕ → ℕ → Vec3
centre_from low edges x y z = add_v (add_v low (scale_v edges half32)) (mul_v (vec (float_of x) (float_of y) (float_of z)) edges)

abbrev pub centre_of : Corners → Axes → ℕ → ℕ → ℕ → Vec3
centre_of c a x y z = centre_from c.min (edges_of c a) x y z

-- a voxel's diagonal, from its edges
abbrev pub diagonal_of : Vec3 → Float
diagonal_of edges = length_v edges

-- 1e-6, below which the Rust takes no edge; within the limits it never acts
abbrev pub edge_floor : Float
edge_floor = lit 0x358637bd

-- the smallest of a voxel's edges
unfoldable pub smallest_edge_of : Vec3 → Float
smallest_edge_of edges = larger_of (smaller_of edges.x (smaller_of edges.y edges.z)) edge_floor
