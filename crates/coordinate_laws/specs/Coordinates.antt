-- The coordinates (pos − min) / edge of a position in an accepted grid, and their floors, are finite: an edge is at least 1/1024, so that a position within n·2^12 has
-- coordinates within (n+1)·2^22.
use Rattle.std.specs.Prelude.{◌≡◌, refl, Bool, true, false, ℕ, ◌+◌, ◌*◌, ◌^◌, ◌≤◌, ◌<◌, T, Float}
use Rattle.std.proofs.lemmas.Bool.{false≢true}
use Rattle.std.proofs.Common.{mul-le-mul_right, lt_of_le_of_lt, arith, lit<}
use Rattle.std.specs.Float.Ieee as Ieee
use Rattle.std.specs.Float.{nan, inf, fin, binary32}
use Rattle.std.specs.Float.Ieee.{fits}
use Rattle.std.specs.Float.Ieee.Exact.{HasValue}
use Rattle.std.specs.Float.Ieee.Fits.{div-fits}
use Rattle.std.specs.Float.Ieee.Scale.{finite}
use Rattle.floats.specs.Whole.{step, floor_of}
use Rattle.floats.specs.WholeLaws.{toward_value}
use Rattle.vectors.specs.declared.Vec3.{Vec3}
use Rattle.grid.specs.declared.Axes.{Axes}
use Rattle.grid.specs.declared.Corners.{Corners}
use Rattle.grid.specs.Grid.{edges_of}
use Rattle.limits.specs.Limits.{bad_axes, bad_grid}
use Rattle.bounds.specs.Bounds.{AtMost, AtLeast, EachAtMost}
use Rattle.bounds.specs.BoundsLaws.{at_most_up, at_most_finite, sub_at_most, div_at_most}
use Rattle.grid_laws.specs.GridBounds.{low_bounded, edges_least}
use Rattle.lookup.specs.Place.{coordinate_of}

-- a coordinate and its floor
pub record FiniteCoordinate (low edge pos : Float) : Type 0 where
  pub coordinate : finite (coordinate_of low edge pos) ≡ true
  pub floored : finite (floor_of (coordinate_of low edge pos)) ≡ true

-- along each axis
pub record FiniteCoordinates (a : Axes) (c : Corners) (p : Vec3) : Type 0 where
  pub x : FiniteCoordinate c.min.x (edges_of c a).x p.x
  pub y : FiniteCoordinate c.min.y (edges_of c a).y p.y
  pub z : FiniteCoordinate c.min.z (edges_of c a).z p.z

has_finite : (x : Float) (s : Bool) (n d : ℕ) → HasValue x s n d → finite x ≡ true
has_finite nan s n d v = absurd v
has_finite (inf t) s n d v = absurd v
has_finite (fin t m e) s n d v = refl

floor_finite : (x : Float) → T (fits binary32 x) → finite x ≡ true → finite (floor_of x) ≡ true
floor_finite nan f h = absurd (false≢true h)
floor_finite (inf s) f h = absurd (false≢true h)
floor_finite (fin s m e) f h = has_finite (floor_of (fin s m e)) s (step (Ieee.unlike s false) (m * Ieee.up e) (Ieee.down e)) 1 (toward_value false s m e f)

one : (low edge pos : Float) (n : ℕ) → n < 4096 → AtMost 1 12 low → AtLeast 1 10 edge → AtMost n 12 pos → FiniteCoordinate low edge pos
one low edge pos n N l e h =
    let room : (n + 1) * 2 ^ 12 < 2 ^ 128 = lt_of_le_of_lt (mul-le-mul_right {m = n + 1} {n = 4096} (2 ^ 12) (omega arith)) (lit< tt) in
    let d = sub_at_most pos low n 1 12 (omega arith) room h l in
    let q : (n + 1) * 2 ^ 12 ≤ (n + 1) * 1 * 2 ^ 12 = mul-le-mul_right {m = n + 1} {n = (n + 1) * 1} (2 ^ 12) (omega arith) in
    let c = div_at_most _ edge (n + 1) 1 12 10 (lit< tt) (omega arith) (lt_of_le_of_lt (mul-le-mul_right {m = n + 1} {n = 4096} (2 ^ 22) (omega arith)) (lit< tt)) (at_most_up _ (n + 1) 12 ((n + 1) * 1) 12 q d) e in
    let f = at_most_finite _ (n + 1) 22 c in
    record { coordinate = f; floored = floor_finite _ (div-fits binary32 _ edge) f }

pub coordinates_finite : (a : Axes) (c : Corners) (p : Vec3) (n : ℕ) → bad_axes a ≡ false → bad_grid c a ≡ false → n < 4096 → EachAtMost n 12 p → FiniteCoordinates a c p
coordinates_finite a c p n ha hg N h =
    let l = low_bounded c a ha hg in
    let e = edges_least c a ha hg in
    record { x = one _ _ _ n N l.x e.x h.x; y = one _ _ _ n N l.y e.y h.y; z = one _ _ _ n N l.z e.z h.z }
