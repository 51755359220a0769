-- No accepted lookup has a coordinate that is NaN, so that its cell is never that of the cast of one: row 11 leaves positions within ±4,096.
use Rattle.std.specs.Prelude.{◌≡◌, false, List, Float}
use Rattle.std.proofs.Common.{arith, lit<}
use Rattle.names.specs.Numbers.{position_limit}
use Rattle.names.specs.Passed.{passed}
use Rattle.vectors.specs.declared.Vec3.{Vec3}
use Rattle.grid.specs.declared.Axes.{Axes}
use Rattle.grid.specs.declared.Corners.{Corners}
use Rattle.limits.specs.Limits.{bad_axes, bad_grid, bad_position}
use Rattle.bounds.specs.BoundsLaws.{point_value}
use Rattle.grid_laws.specs.RowBounds.{within_each}
use Rattle.lookup.specs.Lookup.{light_rows, light_refusal, coefficient_rows, coefficient_refusal}
use Rattle.coordinate_laws.specs.Coordinates.{FiniteCoordinates, coordinates_finite}

-- rows 1, 2 and 11, as for each position of a frame too
pub position_finite : (a : Axes) (c : Corners) (p : Vec3) → bad_axes a ≡ false → bad_grid c a ≡ false → bad_position p ≡ false → FiniteCoordinates a c p
position_finite a c p ha hg hp = coordinates_finite a c p 1 ha hg (lit< tt) (within_each position_limit p 1 12 point_value hp)

pub light_finite : (a : Axes) (c : Corners) (light : List Float) (p : Vec3) → light_refusal a c light p ≡ 0 → FiniteCoordinates a c p
light_finite a c light p e =
    let r = passed (light_rows a c light p) (omega arith, (omega arith, (omega arith, (omega arith, (omega arith, tt))))) e in
    position_finite a c p r.0 r.1.0 r.1.1.1.0

pub coefficients_finite : (a : Axes) (c : Corners) (volume : List Float) (p : Vec3) → coefficient_refusal a c volume p ≡ 0 → FiniteCoordinates a c p
coefficients_finite a c volume p e =
    let r = passed (coefficient_rows a c volume p) (omega arith, (omega arith, (omega arith, (omega arith, (omega arith, tt))))) e in
    position_finite a c p r.0 r.1.0 r.1.1.1.0
