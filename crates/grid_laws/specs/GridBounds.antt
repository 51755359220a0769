-- How large the numbers of an accepted grid are: an edge is at most 8,192, a diagonal at most 7·2^11, and a voxel's centre within ±(12,288 + the longest axis).
-- An edge of w voxels is at most q = 8192/w + 1, and x < w of them and a half more at most w·q, which is at most 8,192 + w.
use Rattle.std.specs.Prelude.{◌≡◌, refl, false, ℕ, ◌+◌, ◌*◌, ◌/◌, ◌^◌, ◌≤◌, ◌<◌, T, Float}
use Rattle.std.proofs.Common.{mul-le-mul_right, mod-lt, div-add-mod', div-mul-le_self, div-le_self, lt_of_le_of_lt, arith, lit<, lit≤}
use Rattle.std.specs.Float.Ieee as Ieee
use Rattle.std.specs.Float.{binary32}
use Rattle.std.specs.Float.Ieee.{fits, of_bits}
use Rattle.std.specs.Float.Ieee.Exact.{HasValue}
use Rattle.names.specs.Bits.{lit, half32}
use Rattle.names.specs.Numbers.{axis_limit, point_limit, edge_limit}
use Rattle.vectors.specs.Vectors.{add_v, mul_v, scale_v}
use Rattle.grid.specs.declared.Axes.{Axes}
use Rattle.grid.specs.declared.Corners.{Corners}
use Rattle.grid.specs.Grid.{AxesWithin, float_of, edges_of, centre_from, centre_of, diagonal_of}
use Rattle.limits.specs.Limits.{bad_axes, bad_grid}
use Rattle.limits.specs.LimitsLaws.{axes_row, grid_row}
use Rattle.bounds.specs.Bounds.{AtMost, AtLeast, EachAtMost}
use Rattle.bounds.specs.BoundsLaws.{at_most_up, at_least_of_test, at_most_finite, add_at_most, sub_at_most, mul_at_most, div_at_most, int_at_most, int_at_least, half_at_most, point_value, edge_value}
use Rattle.bounds.specs.VectorLaws.{dot_at_most}
use Rattle.bounds.specs.LengthLaws.{length_at_most}
use Rattle.grid_laws.specs.RowBounds.{within_each}

-- ---- along one axis

-- q, for an axis of w voxels
abbrev most : ℕ → ℕ
most w = 8192 / w + 1

-- how far from 0 a voxel's centre lies
abbrev pub centre_most : ℕ
centre_most = 12288 + axis_limit

edge : (low high : Float) (w : ℕ) → 1 ≤ w → w ≤ axis_limit → AtMost 1 12 low → AtMost 1 12 high → AtMost (most w) 0 (Ieee.div binary32 (Ieee.sub binary32 high low) (float_of w))
edge low high w p q h g =
    let d = sub_at_most high low 1 1 12 (lit< tt) (lit< tt) g h in
    let s = div-le_self 8192 w in
    let r : 8192 ≤ most w * w * 1 = omega (arith, div-add-mod' 8192 w, mod-lt 8192 {m = w} p) in
    div_at_most _ (float_of w) (most w) w 0 0 p (omega arith) (lt_of_le_of_lt {n = most w * 1} {m = 8193} (omega arith) (lit< tt)) (at_most_up _ 2 12 (most w * w) 0 r d) (int_at_least w (omega arith))

whole : (low high : Float) (w : ℕ) → 1 ≤ w → w ≤ axis_limit → AtMost 1 12 low → AtMost 1 12 high → AtMost 2 12 (Ieee.div binary32 (Ieee.sub binary32 high low) (float_of w))
whole low high w p q h g =
    let d = sub_at_most high low 1 1 12 (lit< tt) (lit< tt) g h in
    div_at_most _ (float_of w) 2 w 12 0 p (lit< tt) (lit< tt) (at_most_up _ 2 12 (2 * w) 12 (omega arith) d) (int_at_least w (omega arith))

-- (low + edge·½) + x·edge
along : (low e : Float) (w x : ℕ) → x < w → w ≤ axis_limit → AtMost 1 12 low → AtMost (most w) 0 e
    → AtMost centre_most 0 (Ieee.add binary32 (Ieee.add binary32 low (Ieee.mul binary32 e half32)) (Ieee.mul binary32 (float_of x) e))
along low e w x p q h g =
    let s = div-le_self 8192 w in
    let r = div-mul-le_self 8192 w in
    let t = mul-le-mul_right (most w) p in
    let o : x * most w ≤ 8192 + axis_limit = omega arith in
    let a = at_most_up low 1 12 4096 0 (lit≤ tt) h in
    let b = mul_at_most e half32 (most w) 0 1 0 (omega arith) (lt_of_le_of_lt {n = most w * 1 * 1} {m = 8193} (omega arith) (lit< tt)) g half_at_most in
    let c = mul_at_most (float_of x) e x 0 (most w) 0 (omega arith) (lt_of_le_of_lt {n = x * most w * 1} {m = 8192 + axis_limit} (omega arith) (lit< tt)) (int_at_most x (omega arith)) g in
    let d = add_at_most low _ 4096 (most w * 1) 0 (omega arith) (lt_of_le_of_lt {n = (4096 + most w * 1) * 1} {m = 16777216} (omega arith) (lit< tt)) a b in
    at_most_up _ (4096 + most w * 1 + x * most w) 0 centre_most 0 (omega arith)
    (add_at_most _ _ (4096 + most w * 1) (x * most w) 0 (omega arith) (lt_of_le_of_lt {n = (4096 + most w * 1 + x * most w) * 1} {m = 16777216} (omega arith) (lit< tt)) d c)

-- ---- the grid

-- 7·2^11
abbrev widest : Float
widest = lit 0x46600000

widest_fits : T (fits binary32 widest)
widest_fits = unfold fits of_bits in tt

widest_value : HasValue widest false (7 * 2 ^ 11) 1
widest_value = unfold of_bits in (refl, refl)

module _ (c : Corners) (a : Axes) (ha : bad_axes a ≡ false) (hg : bad_grid c a ≡ false) where
  within : AxesWithin a
  within = (axes_row a).0 ha

  pub low_bounded : EachAtMost 1 12 c.min
  low_bounded = within_each point_limit c.min 1 12 point_value ((grid_row c a).0 hg).0

  high_bounded : EachAtMost 1 12 c.max
  high_bounded = within_each point_limit c.max 1 12 point_value ((grid_row c a).0 hg).1

  edge_x : AtMost (most a.width) 0 (edges_of c a).x
  unfolding edges_of
  edge_x = edge c.min.x c.max.x a.width within.width within.widest low_bounded.x high_bounded.x

  edge_y : AtMost (most a.height) 0 (edges_of c a).y
  unfolding edges_of
  edge_y = edge c.min.y c.max.y a.height within.height within.highest low_bounded.y high_bounded.y

  edge_z : AtMost (most a.depth) 0 (edges_of c a).z
  unfolding edges_of
  edge_z = edge c.min.z c.max.z a.depth within.depth within.deepest low_bounded.z high_bounded.z

  pub edges_bounded : EachAtMost 2 12 (edges_of c a)
  unfolding edges_of
  edges_bounded =
      record {
        x = whole c.min.x c.max.x a.width within.width within.widest low_bounded.x high_bounded.x;
        y = whole c.min.y c.max.y a.height within.height within.highest low_bounded.y high_bounded.y;
        z = whole c.min.z c.max.z a.depth within.depth within.deepest low_bounded.z high_bounded.z;
      }

  pub record EdgesLeast : Type 0 where
    pub x : AtLeast 1 10 (edges_of c a).x
    pub y : AtLeast 1 10 (edges_of c a).y
    pub z : AtLeast 1 10 (edges_of c a).z

  pub edges_least : EdgesLeast
  edges_least =
      let r = (grid_row c a).0 hg in
      let e = edges_bounded in
      record {
        x = at_least_of_test _ edge_limit 1 10 edge_value (at_most_finite _ 2 12 e.x) r.2;
        y = at_least_of_test _ edge_limit 1 10 edge_value (at_most_finite _ 2 12 e.y) r.3;
        z = at_least_of_test _ edge_limit 1 10 edge_value (at_most_finite _ 2 12 e.z) r.4;
      }

  pub diagonal_bounded : AtMost 7 11 (diagonal_of (edges_of c a))
  diagonal_bounded =
      let e = edges_bounded in
      length_at_most (edges_of c a) widest 7 11 widest_fits widest_value (at_most_up _ 12 24 49 22 (lit≤ tt) (dot_at_most _ _ 2 12 2 12 (lit< tt) (lit< tt) e e))

  pub centre_bounded : (x y z : ℕ) → x < a.width → y < a.height → z < a.depth → EachAtMost centre_most 0 (centre_of c a x y z)
  unfolding centre_from add_v scale_v mul_v
  centre_bounded x y z p q r =
      record {
        x = along c.min.x (edges_of c a).x a.width x p within.widest low_bounded.x edge_x;
        y = along c.min.y (edges_of c a).y a.height y q within.highest low_bounded.y edge_y;
        z = along c.min.z (edges_of c a).z a.depth z r within.deepest low_bounded.z edge_z;
      }
