-- The basis of a normal and its four hemisphere directions, from "a constant table of twelve numbers". Up is Z if |nz|<.999, else X; the
-- tangent is n×up normalised, the bitangent n×tangent, not normalised; a direction is (T·x+B·y)+N·z normalised. Definitions only.
use Rattle.std.specs.Prelude.{cond, List, [], ◌∷◌, map, ℕ, ◌*◌, Float}
use Rattle.std.specs.Float.Ieee as Ieee
use Rattle.std.specs.Float.{binary32}
use Rattle.std.specs.Float.Ieee.{of_bits}
use Rattle.names.specs.Bits.{lit, zero32, one32}
use Rattle.floats.specs.Choice.{magnitude_of}
use Rattle.vectors.specs.Vectors.{vec, add_v, scale_v, cross_v, normal_v}
use Rattle.vectors.specs.Places.{vec_at}
use Rattle.vectors.specs.declared.Vec3.{Vec3}
use Rattle.bounce.specs.declared.Basis.{Basis}

-- (0, 0, 1), (.8660254, 0, .5), (−.4330127, .75, .5), (−.4330127, −.75, .5)
unfoldable pub hemisphere : List Float
hemisphere =
    map (of_bits binary32)
    (0 ∷ 0 ∷ 0x3f800000 ∷ 0x3f5db3d7 ∷ 0 ∷ 0x3f000000 ∷ 0xbeddb3d7 ∷ 0x3f400000 ∷ 0x3f000000 ∷ 0xbeddb3d7 ∷ 0xbf400000 ∷ 0x3f000000 ∷ [])

-- number j of the four
unfoldable pub local_at : ℕ → Vec3
local_at j = vec_at hemisphere (j * 3)

unfoldable pub up_of : Vec3 → Vec3
up_of n = cond (Ieee.lt (magnitude_of n.z) (lit 0x3f7fbe77)) (vec zero32 zero32 one32) (vec one32 zero32 zero32)

unfoldable pub tangent_of : Vec3 → Vec3
tangent_of n = normal_v (cross_v n (up_of n))

unfoldable pub basis_of : Vec3 → Basis
basis_of n = record { tangent = tangent_of n; bitangent = cross_v n (tangent_of n); normal = n }

-- a local direction in a basis
unfoldable pub turned_by : Basis → Vec3 → Vec3
turned_by f v = normal_v (add_v (add_v (scale_v f.tangent v.x) (scale_v f.bitangent v.y)) (scale_v f.normal v.z))

-- hemisphere direction j of a basis
abbrev pub sky_direction : Basis → ℕ → Vec3
sky_direction f j = turned_by f (local_at j)
