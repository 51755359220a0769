-- Vectors of three f32, by IEEE 754 at binary32: each operation rounded once, in document 01's order. Assumes nothing.
use Rattle.std.specs.Float.Ieee as Ieee
use Rattle.std.specs.Prelude.{Float}
use Rattle.std.specs.Float.{binary32}
use Rattle.names.specs.Bits.{zero32, one32}
use Rattle.floats.specs.Choice.{larger_of, smaller_of}
use Rattle.floats.specs.Root.{root_of}
use Rattle.vectors.specs.declared.Vec3.{Vec3}

abbrev pub vec : Float → Float → Float → Vec3
vec a b c = record { x = a; y = b; z = c }

unfoldable pub add_v : Vec3 → Vec3 → Vec3
add_v a b = vec (Ieee.add binary32 a.x b.x) (Ieee.add binary32 a.y b.y) (Ieee.add binary32 a.z b.z)

unfoldable pub sub_v : Vec3 → Vec3 → Vec3
sub_v a b = vec (Ieee.sub binary32 a.x b.x) (Ieee.sub binary32 a.y b.y) (Ieee.sub binary32 a.z b.z)

-- by component
unfoldable pub mul_v : Vec3 → Vec3 → Vec3
mul_v a b = vec (Ieee.mul binary32 a.x b.x) (Ieee.mul binary32 a.y b.y) (Ieee.mul binary32 a.z b.z)

unfoldable pub scale_v : Vec3 → Float → Vec3
scale_v a s = vec (Ieee.mul binary32 a.x s) (Ieee.mul binary32 a.y s) (Ieee.mul binary32 a.z s)

unfoldable pub div_v : Vec3 → Float → Vec3
div_v a s = vec (Ieee.div binary32 a.x s) (Ieee.div binary32 a.y s) (Ieee.div binary32 a.z s)

-- the signs turned, which 0 − a is not: it loses −0
unfoldable pub neg_v : Vec3 → Vec3
neg_v a = vec (Ieee.neg a.x) (Ieee.neg a.y) (Ieee.neg a.z)

-- "Dot is (xx+yy)+zz."
unfoldable pub dot_v : Vec3 → Vec3 → Float
dot_v a b =
    Ieee.add binary32 (Ieee.add binary32 (Ieee.mul binary32 a.x b.x) (Ieee.mul binary32 a.y b.y))
    (Ieee.mul binary32 a.z b.z)

-- a·b − c·d
abbrev pub crossed : Float → Float → Float → Float → Float
crossed a b c d = Ieee.sub binary32 (Ieee.mul binary32 a b) (Ieee.mul binary32 c d)

-- "Cross is a.y·b.z−a.z·b.y and so on round."
unfoldable pub cross_v : Vec3 → Vec3 → Vec3
cross_v a b =
    vec (crossed a.y b.z a.z b.y) (crossed a.z b.x a.x b.z) (crossed a.x b.y a.y b.x)

-- the root of the dot
unfoldable pub length_v : Vec3 → Float
length_v a = root_of (dot_v a a)

-- "Normalising divides each component by the root of the dot."
unfoldable pub normal_v : Vec3 → Vec3
normal_v a = div_v a (length_v a)

-- the larger, and the smaller, by component: of two equals the second
unfoldable pub larger_v : Vec3 → Vec3 → Vec3
larger_v a b = vec (larger_of a.x b.x) (larger_of a.y b.y) (larger_of a.z b.z)

unfoldable pub smaller_v : Vec3 → Vec3 → Vec3
smaller_v a b = vec (smaller_of a.x b.x) (smaller_of a.y b.y) (smaller_of a.z b.z)

-- raised to 0 and then lowered to 1, which makes −0 +0
unfoldable pub clamp_of : Float → Float
clamp_of x = smaller_of (larger_of x zero32) one32

unfoldable pub clamp_v : Vec3 → Vec3
clamp_v a = vec (clamp_of a.x) (clamp_of a.y) (clamp_of a.z)

-- "a·(1−t)+b·t for the blend"
unfoldable pub lerp_v : Vec3 → Vec3 → Float → Vec3
lerp_v a b t = add_v (scale_v a (Ieee.sub binary32 one32 t)) (scale_v b t)
