-- Where the named constants come from, by computation: each is the Rust's constant expression in f32, rounded at every operation. And
-- what the brightness floor leaves alone.
use Rattle.std.specs.Prelude.{◌≡◌, refl, Bool, true, false, cond}
use Rattle.std.specs.Float.Ieee as Ieee
use Rattle.std.specs.Float.{binary32}
use Rattle.std.specs.Float.Ieee.{of_bits}
use Rattle.names.specs.Bits.{lit, zero32, two32}
use Rattle.vectors.specs.Vectors.{scale_v}
use Rattle.harmonics.specs.declared.Coefficients.{Coefficients}
use Rattle.harmonics.specs.Harmonics.{pi32, constant_basis, linear_basis, primary_weight, constant_irradiance, linear_irradiance, floor32, luminance_of, floored_of}

-- π·0.282095
pub constant_irradiance_lem : constant_irradiance ≡ Ieee.mul binary32 pi32 constant_basis
unfolding of_bits Ieee.mul
constant_irradiance_lem = refl

-- (2π/3)·0.488603
pub linear_irradiance_lem : linear_irradiance ≡ Ieee.mul binary32 (Ieee.div binary32 (Ieee.mul binary32 two32 pi32) (lit 0x40400000)) linear_basis
unfolding of_bits Ieee.mul Ieee.div
linear_irradiance_lem = refl

-- 4π/64
pub primary_weight_lem : primary_weight ≡ Ieee.div binary32 (Ieee.mul binary32 (lit 0x40800000) pi32) (lit 0x42800000)
unfolding of_bits Ieee.mul Ieee.div
primary_weight_lem = refl

-- with an ambient that is black or darker there is no floor
pub no_floor : (c a : Coefficients) → Ieee.le (luminance_of (scale_v a.c0 floor32)) zero32 ≡ true → floored_of c a ≡ c
unfolding floored_of
no_floor c a h = rw h

-- what is as bright as the floor stays as it is
pub bright_kept : (c a : Coefficients) → Ieee.le (luminance_of (scale_v a.c0 floor32)) (luminance_of c.c0) ≡ true → floored_of c a ≡ c
unfolding floored_of
bright_kept c a h = rw h (either (Ieee.le (luminance_of (scale_v a.c0 floor32)) zero32) c)
  where
    either : (b : Bool) (x : Coefficients) → cond b x x ≡ x
    either true x = refl
    either false x = refl
