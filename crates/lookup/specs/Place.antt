-- Where a position lies among the cells. A cell's value stands at its lower corner: along an axis f = (pos − min) / edge, its floor
-- gives the cell, clamped, the next cell is that one's, clamped, and the fraction is f − floor, unclamped. Eight cells surround a
-- position; between them the blend goes along x, then y, then z. Assumes nothing.
use Rattle.std.specs.Prelude.{◌≡◌, ℕ, ◌+◌, ◌-◌, ◌*◌, ◌<◌, cond, List, [], ◌∷◌, nat_lt, Float}
use Rattle.std.specs.Float.Ieee as Ieee
use Rattle.std.specs.Float.{binary32}
use Rattle.std.specs.Float.Ieee.{to_unsigned}
use Rattle.names.specs.Bits.{one32}
use Rattle.floats.specs.Whole.{floor_of}
use Rattle.vectors.specs.declared.Vec3.{Vec3}
use Rattle.grid.specs.declared.Axes.{Axes}
use Rattle.grid.specs.declared.Corners.{Corners}
use Rattle.grid.specs.Grid.{voxels, index_of, edges_of}
use Rattle.lookup.specs.declared.Between.{Between}
use Rattle.lookup.specs.declared.Cells.{Cells}

-- ---- along one axis

-- k of n cells; past the end, the last
unfoldable pub clamped : ℕ → ℕ → ℕ
clamped n k = cond (nat_lt k n) k (n - 1)

-- the cell of a floored coordinate: below 0 cell 0, past the end the last. (`to_unsigned 64` is the Rust's `as usize`: 0 below 0.)
unfoldable pub clamped_cell : ℕ → Float → ℕ
clamped_cell n whole = clamped n (to_unsigned 64 whole)

-- from a coordinate to its cell, the next and the fraction between them
unfoldable pub between_of : ℕ → Float → Between
between_of n f =
    record { cell = clamped_cell n (floor_of f); next = clamped n (clamped_cell n (floor_of f) + 1); fraction = Ieee.sub binary32 f (floor_of f) }

-- what a place along an axis is, and that it lies within the axis
pub record Placed (n : ℕ) (f : Float) (b : Between) : Type 0 where
  pub same : b ≡ between_of n f
  pub cell : b.cell < n
  pub next : b.next < n

-- (pos − min) / edge
abbrev pub coordinate_of : Float → Float → Float → Float
coordinate_of low edge pos = Ieee.div binary32 (Ieee.sub binary32 pos low) edge

-- ---- the eight cells around a position

-- the eight cells from three places, and the three fractions: x first, then y, then z
unfoldable pub cells_from : Axes → Between → Between → Between → Cells
cells_from a x y z =
    record {
      c000 = index_of a x.cell y.cell z.cell;
      c100 = index_of a x.next y.cell z.cell;
      c010 = index_of a x.cell y.next z.cell;
      c110 = index_of a x.next y.next z.cell;
      c001 = index_of a x.cell y.cell z.next;
      c101 = index_of a x.next y.cell z.next;
      c011 = index_of a x.cell y.next z.next;
      c111 = index_of a x.next y.next z.next;
      x = x.fraction;
      y = y.fraction;
      z = z.fraction;
    }

unfoldable pub cells_of : Axes → Corners → Vec3 → Cells
cells_of a c p =
    cells_from a (between_of a.width (coordinate_of c.min.x (edges_of c a).x p.x))
    (between_of a.height (coordinate_of c.min.y (edges_of c a).y p.y))
    (between_of a.depth (coordinate_of c.min.z (edges_of c a).z p.z))

-- three places lie within the axes
pub record Along (a : Axes) (bx by bz : Between) : Type 0 where
  pub x : bx.cell < a.width
  pub x' : bx.next < a.width
  pub y : by.cell < a.height
  pub y' : by.next < a.height
  pub z : bz.cell < a.depth
  pub z' : bz.next < a.depth

-- each of eight cells is one of n
pub record Inside (n : ℕ) (c : Cells) : Type 0 where
  pub c000 : c.c000 < n
  pub c100 : c.c100 < n
  pub c010 : c.c010 < n
  pub c110 : c.c110 < n
  pub c001 : c.c001 < n
  pub c101 : c.c101 < n
  pub c011 : c.c011 < n
  pub c111 : c.c111 < n

-- what the cells of a position are, and that they lie in the grid
pub record CellsFound (a : Axes) (c : Corners) (p : Vec3) (r : Cells) : Type 0 where
  pub same : r ≡ cells_of a c p
  pub inside : Inside (voxels a) r

-- the cells read
abbrev pub cells_read : Cells → List ℕ
cells_read c = c.c000 ∷ c.c100 ∷ c.c010 ∷ c.c110 ∷ c.c001 ∷ c.c101 ∷ c.c011 ∷ c.c111 ∷ []

-- ---- the blend

-- a·(1−t)+b·t
unfoldable pub blend_of : Float → Float → Float → Float
blend_of a b t = Ieee.add binary32 (Ieee.mul binary32 a (Ieee.sub binary32 one32 t)) (Ieee.mul binary32 b t)

-- between what f gives at the eight cells: along x, then y, then z
unfoldable pub blended_of : Cells → (ℕ → Float) → Float
blended_of c f =
    blend_of
    (blend_of (blend_of (f c.c000) (f c.c100) c.x) (blend_of (f c.c010) (f c.c110) c.x) c.y)
    (blend_of (blend_of (f c.c001) (f c.c101) c.x) (blend_of (f c.c011) (f c.c111) c.x) c.y)
    c.z

-- the number at place k of each of the eight cells, of so many numbers a cell, stands in a list of length len
pub record Readable (stride k len : ℕ) (c : Cells) : Type 0 where
  pub c000 : c.c000 * stride + k < len
  pub c100 : c.c100 * stride + k < len
  pub c010 : c.c010 * stride + k < len
  pub c110 : c.c110 * stride + k < len
  pub c001 : c.c001 * stride + k < len
  pub c101 : c.c101 * stride + k < len
  pub c011 : c.c011 * stride + k < len
  pub c111 : c.c111 * stride + k < len
