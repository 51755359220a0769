-- Bounds of vectors and of four coefficients, and of the constants by which gather multiplies.
use Rattle.std.specs.Prelude.{Bool, true, false, cond, ℕ, ◌+◌, ◌*◌, ◌^◌, ◌<◌, ◌≤◌, Float}
use Rattle.std.proofs.Common.{lit≤}
use Rattle.std.specs.Float.Ieee.{of_bits}
use Rattle.names.specs.Bits.{lit}
use Rattle.vectors.specs.declared.Vec3.{Vec3}
use Rattle.vectors.specs.Vectors.{div_v}
use Rattle.bounds.specs.Bounds.{AtMost, AtLeast, EachAtMost}
use Rattle.bounds.specs.BoundsLaws.{div_at_most, zero_at_most}
use Rattle.bounds.specs.VectorLaws.{each_up}
use Rattle.harmonics.specs.declared.Coefficients.{Coefficients}
use Rattle.harmonics.specs.Harmonics.{zero_v}

pub div_each : (a : Vec3) (s : Float) (n l j k : ℕ) → 0 < l → n < 16777216 → n * 2 ^ (j + k) < 2 ^ 128 → EachAtMost (n * l) j a → AtLeast l k s → EachAtMost n (j + k) (div_v a s)
unfolding div_v
div_each a s n l j k L N B h g =
    record { x = div_at_most a.x s n l j k L N B h.x g; y = div_at_most a.y s n l j k L N B h.y g; z = div_at_most a.z s n l j k L N B h.z g }

pub zero_each : (n k : ℕ) → EachAtMost n k zero_v
zero_each n k = record { x = zero_at_most n k; y = zero_at_most n k; z = zero_at_most n k }

-- whichever of two is taken
pub taken_each : (b : Bool) (p q : Vec3) (n k : ℕ) → EachAtMost n k p → EachAtMost n k q → EachAtMost n k (cond b p q)
taken_each true p q n k h g = h
taken_each false p q n k h g = g

-- each of four coefficients
pub record AllAtMost (n k : ℕ) (c : Coefficients) : Type 0 where
  pub c0 : EachAtMost n k c.c0
  pub c1 : EachAtMost n k c.c1
  pub c2 : EachAtMost n k c.c2
  pub c3 : EachAtMost n k c.c3

pub all_up : (c : Coefficients) (n k l j : ℕ) → n * 2 ^ k ≤ l * 2 ^ j → AllAtMost n k c → AllAtMost l j c
all_up c n k l j h b =
    record { c0 = each_up c.c0 n k l j h b.c0; c1 = each_up c.c1 n k l j h b.c1; c2 = each_up c.c2 n k l j h b.c2; c3 = each_up c.c3 n k l j h b.c3 }

pub taken_all : (b : Bool) (p q : Coefficients) (n k : ℕ) → AllAtMost n k p → AllAtMost n k q → AllAtMost n k (cond b p q)
taken_all true p q n k h g = h
taken_all false p q n k h g = g

-- ---- constants

pub constant_basis_small : AtMost 1 0 (lit 0x3e906ec1)
unfolding AtMost of_bits
constant_basis_small = lit≤ tt

pub linear_basis_small : AtMost 1 0 (lit 0x3efa2a2c)
unfolding AtMost of_bits
linear_basis_small = lit≤ tt

pub primary_weight_small : AtMost 1 0 (lit 0x3e490fdb)
unfolding AtMost of_bits
primary_weight_small = lit≤ tt

pub constant_irradiance_small : AtMost 1 0 (lit 0x3f62dfcf)
unfolding AtMost of_bits
constant_irradiance_small = lit≤ tt

pub linear_irradiance_small : AtMost 2 0 (lit 0x3f82fc67)
unfolding AtMost of_bits
linear_irradiance_small = lit≤ tt

pub floor_small : AtMost 1 0 (lit 0x3ba3d70a)
unfolding AtMost of_bits
floor_small = lit≤ tt

pub red_small : AtMost 1 0 (lit 0x3e59b3d0)
unfolding AtMost of_bits
red_small = lit≤ tt

pub green_small : AtMost 1 0 (lit 0x3f371759)
unfolding AtMost of_bits
green_small = lit≤ tt

pub blue_small : AtMost 1 0 (lit 0x3d93dd98)
unfolding AtMost of_bits
blue_small = lit≤ tt

pub quarter_small : AtMost 1 0 (lit 0x3e800000)
unfolding AtMost of_bits
quarter_small = lit≤ tt

pub pi_least : AtLeast 1 0 (lit 0x40490fdb)
unfolding AtLeast of_bits
pi_least = lit≤ tt

pub sixty_four : AtLeast 64 0 (lit 0x42800000)
unfolding AtLeast of_bits
sixty_four = lit≤ tt
