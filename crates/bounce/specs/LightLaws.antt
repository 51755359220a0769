-- What turning, black and a basis mean. Black is judged by the squared length, and not by components: figures by computation.
use Rattle.std.specs.Prelude.{◌≡◌, refl, Bool, true, false, cond, ◌↔◌}
use Rattle.std.proofs.lemmas.Bool.{false≢true}
use Rattle.std.specs.Float.Ieee as Ieee
use Rattle.std.specs.Float.Ieee.{of_bits}
use Rattle.names.specs.Bits.{lit, zero32, one32}
use Rattle.vectors.specs.Vectors.{vec, neg_v, dot_v, cross_v}
use Rattle.vectors.specs.declared.Vec3.{Vec3}
use Rattle.harmonics.specs.Harmonics.{zero_v}
use Rattle.bounce.specs.Hemisphere.{basis_of}
use Rattle.bounce.specs.Light.{facing_of, black_of}

-- a normal that looks away from where the ray comes from is turned, any other is kept
pub facing_turned : (n direction : Vec3) → Ieee.lt (dot_v n (neg_v direction)) zero32 ≡ true → facing_of n direction ≡ neg_v n
unfolding facing_of
facing_turned n direction h = rw h

pub facing_kept : (n direction : Vec3) → Ieee.lt (dot_v n (neg_v direction)) zero32 ≡ false → facing_of n direction ≡ n
unfolding facing_of
facing_kept n direction h = rw h

-- a basis's third axis is the normal itself, and its second stands across the other two
pub basis_axes : (n : Vec3) → ((basis_of n).normal ≡ n) × ((basis_of n).bitangent ≡ cross_v n (basis_of n).tangent)
unfolding basis_of
basis_axes n = (refl, refl)

-- a surface is black exactly when both colours have squared length ≤0
pub black_exactly : (albedo emissive : Vec3)
    → (black_of albedo emissive ≡ true) ↔ ((Ieee.le (dot_v albedo albedo) zero32 ≡ true) × (Ieee.le (dot_v emissive emissive) zero32 ≡ true))
unfolding black_of
black_exactly albedo emissive = (go (Ieee.le (dot_v albedo albedo) zero32) _, λ h. rw h.0 h.1)
  where
    go : (a e : Bool) → cond a e false ≡ true → (a ≡ true) × (e ≡ true)
    go true e h = (refl, h)
    go false e h = absurd (false≢true h)

-- "1e-30 squares to 0"
pub black_by_square : black_of (vec (lit 0x0da24260) zero32 zero32) zero_v ≡ true
unfolding black_of dot_v of_bits Ieee.add Ieee.mul Ieee.le Ieee.lt Ieee.eq
black_by_square = refl

-- so does 2^-75, and the next float up does not
pub last_black : black_of (vec (lit 0x1a000000) zero32 zero32) zero_v ≡ true
unfolding black_of dot_v of_bits Ieee.add Ieee.mul Ieee.le Ieee.lt Ieee.eq
last_black = refl

pub first_not_black : black_of (vec (lit 0x1a000001) zero32 zero32) zero_v ≡ false
unfolding black_of dot_v of_bits Ieee.add Ieee.mul Ieee.le Ieee.lt Ieee.eq
first_not_black = refl

-- a surface that only glows is not black
pub glowing : black_of zero_v (vec zero32 zero32 one32) ≡ false
unfolding black_of dot_v of_bits Ieee.add Ieee.mul Ieee.le Ieee.lt Ieee.eq
glowing = refl
