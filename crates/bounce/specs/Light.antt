-- The light that falls on a surface and what it sends out. gi.rs decides every order and bracket; each operation is rounded once.
-- Definitions only.
use Rattle.std.specs.Prelude.{Bool, false, cond, Float}
use Rattle.std.specs.Float.Ieee as Ieee
use Rattle.std.specs.Float.{binary32}
use Rattle.names.specs.Bits.{zero32}
use Rattle.floats.specs.Choice.{larger_of}
use Rattle.vectors.specs.Vectors.{add_v, sub_v, mul_v, scale_v, div_v, neg_v, dot_v, cross_v, normal_v}
use Rattle.vectors.specs.declared.Vec3.{Vec3}
use Rattle.vectors.specs.declared.Triangle.{Triangle}
use Rattle.harmonics.specs.Harmonics.{pi32, evaluated_at, raised_v, zero_v}
use Rattle.harmonics.specs.declared.Coefficients.{Coefficients}

-- the normal of a triangle: its edges' cross, normalised
unfoldable pub face_normal : Triangle → Vec3
face_normal t = normal_v (cross_v (sub_v t.p1 t.p0) (sub_v t.p2 t.p0))

-- turned if n·(−direction)<0
unfoldable pub facing_of : Vec3 → Vec3 → Vec3
facing_of n direction = cond (Ieee.lt (dot_v n (neg_v direction)) zero32) (neg_v n) n

-- "albedo and emissive both have squared length ≤0"
unfoldable pub black_of : Vec3 → Vec3 → Bool
black_of albedo emissive = cond (Ieee.le (dot_v albedo albedo) zero32) (Ieee.le (dot_v emissive emissive) zero32) false

-- n·l raised to 0
unfoldable pub slant_of : Vec3 → Vec3 → Float
slant_of n light = larger_of (dot_v n light) zero32

-- colour·(n·l·visibility)
unfoldable pub sunlight_of : Vec3 → Float → Float → Vec3
sunlight_of colour slant visibility = scale_v colour (Ieee.mul binary32 slant visibility)

-- ambient at the normal, raised to 0, by the part of the sky that is seen
unfoldable pub skylight_of : Coefficients → Vec3 → Float → Vec3
skylight_of ambient n visibility = scale_v (raised_v (evaluated_at ambient n)) visibility

-- albedo·(e/π), where e has a squared length above 0
unfoldable pub bounced_of : Vec3 → Vec3 → Vec3
bounced_of albedo e = cond (Ieee.lt zero32 (dot_v e e)) (mul_v albedo (div_v e pi32)) zero_v

-- with e the light that has fallen on it, sun plus sky and then the lamps, raised to 0; and what the surface glows by itself
unfoldable pub reflected_of : Vec3 → Vec3 → Vec3 → Vec3
reflected_of albedo emissive fallen = add_v (bounced_of albedo (raised_v fallen)) emissive
