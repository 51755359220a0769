-- Spherical harmonics of four coefficients, basis order 1, y, z, x. The text of gi.rs decides every order and bracket; each operation
-- is rounded once. Definitions only.
use Rattle.std.specs.Prelude.{cond, Float}
use Rattle.std.specs.Float.Ieee as Ieee
use Rattle.std.specs.Float.{binary32}
use Rattle.names.specs.Bits.{lit, zero32}
use Rattle.vectors.specs.Vectors.{vec, add_v, scale_v, dot_v, larger_v, clamp_of, lerp_v}
use Rattle.vectors.specs.declared.Vec3.{Vec3}
use Rattle.harmonics.specs.declared.Coefficients.{Coefficients}

abbrev pub coefficients : Vec3 → Vec3 → Vec3 → Vec3 → Coefficients
coefficients a b c d = record { c0 = a; c1 = b; c2 = c; c3 = d }

abbrev pub zero_v : Vec3
zero_v = vec zero32 zero32 zero32

-- π
abbrev pub pi32 : Float
pi32 = lit 0x40490fdb

-- ---- projection

-- 0.282095 and 0.488603
abbrev pub constant_basis : Float
constant_basis = lit 0x3e906ec1

abbrev pub linear_basis : Float
linear_basis = lit 0x3efa2a2c

-- 4π/64
abbrev pub primary_weight : Float
primary_weight = lit 0x3e490fdb

-- out += radiance·(basis·weight)
unfoldable pub add_weighted : Vec3 → Vec3 → Float → Vec3
add_weighted sum radiance basis = add_v sum (scale_v radiance (Ieee.mul binary32 basis primary_weight))

-- the sums with the radiance that comes from a direction
unfoldable pub projected : Coefficients → Vec3 → Vec3 → Coefficients
projected sums direction radiance =
    coefficients (add_weighted sums.c0 radiance constant_basis)
    (add_weighted sums.c1 radiance (Ieee.mul binary32 linear_basis direction.y))
    (add_weighted sums.c2 radiance (Ieee.mul binary32 linear_basis direction.z))
    (add_weighted sums.c3 radiance (Ieee.mul binary32 linear_basis direction.x))

-- "Radiance with squared length ≤0 adds nothing."
unfoldable pub added_to : Coefficients → Vec3 → Vec3 → Coefficients
added_to sums direction radiance = cond (Ieee.le (dot_v radiance radiance) zero32) sums (projected sums direction radiance)

-- ---- irradiance

-- π·0.282095 and (2π/3)·0.488603, each product of f32 rounded once
abbrev pub constant_irradiance : Float
constant_irradiance = lit 0x3f62dfcf

abbrev pub linear_irradiance : Float
linear_irradiance = lit 0x3f82fc67

unfoldable pub irradiance_of : Coefficients → Coefficients
irradiance_of r =
    coefficients (scale_v r.c0 constant_irradiance) (scale_v r.c1 linear_irradiance) (scale_v r.c2 linear_irradiance) (scale_v r.c3 linear_irradiance)

-- the coefficients at a normal: ((c0+c1·ny)+c2·nz)+c3·nx
unfoldable pub evaluated_at : Coefficients → Vec3 → Vec3
evaluated_at c n = add_v (add_v (add_v c.c0 (scale_v c.c1 n.y)) (scale_v c.c2 n.z)) (scale_v c.c3 n.x)

-- raised to 0
unfoldable pub raised_v : Vec3 → Vec3
raised_v a = larger_v a zero_v

unfoldable pub raised_of : Coefficients → Coefficients
raised_of c = coefficients (raised_v c.c0) (raised_v c.c1) (raised_v c.c2) (raised_v c.c3)

-- ---- the brightness floor

-- "brightness floor 0.005"
abbrev pub floor32 : Float
floor32 = lit 0x3ba3d70a

-- (.2126x+.7152y)+.0722z
unfoldable pub luminance_of : Vec3 → Float
luminance_of c =
    Ieee.add binary32 (Ieee.add binary32 (Ieee.mul binary32 (lit 0x3e59b3d0) c.x) (Ieee.mul binary32 (lit 0x3f371759) c.y))
    (Ieee.mul binary32 (lit 0x3d93dd98) c.z)

-- from a coefficient toward 0.005 of ambient's
unfoldable pub blended_v : Vec3 → Vec3 → Float → Vec3
blended_v coefficient ambient t = lerp_v coefficient (scale_v ambient floor32) t

unfoldable pub blended_each : Coefficients → Coefficients → Float → Coefficients
blended_each c a t =
    coefficients (blended_v c.c0 a.c0 t) (blended_v c.c1 a.c1 t) (blended_v c.c2 a.c2 t) (blended_v c.c3 a.c3 t)

-- how far a luminance stands below the floor, 0..1
unfoldable pub shortfall_of : Float → Float → Float
shortfall_of least current = clamp_of (Ieee.div binary32 (Ieee.sub binary32 least current) least)

-- no floor where its luminance is ≤0, and none where the luminance reaches it; else all four are blended by the shortfall
unfoldable pub floored_of : Coefficients → Coefficients → Coefficients
floored_of c a =
    let least = luminance_of (scale_v a.c0 floor32) in
    let current = luminance_of c.c0 in
    cond (Ieee.le least zero32) c (cond (Ieee.le least current) c (blended_each c a (shortfall_of least current)))
