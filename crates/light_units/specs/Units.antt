-- Units of light. "counts each light in units of 2^-24, rounded down": a light of m·2^e has the whole part of m·2^e·2^24, whatever its sign, so that −0
-- has 0. NaN and the infinities lie outside 0..1 and are never counted. Definitions only: specs/UnitsLaws.antt says what they mean.
use Rattle.std.specs.Prelude.{ℕ, ◌*◌, ◌/◌, Bool, not, Float}
use Rattle.std.specs.Float.{nan, inf, fin}
use Rattle.std.specs.Float.Ieee.{up, down}
use Rattle.names.specs.Numbers.{most_units}
use Rattle.names.specs.Bits.{one32}
use Rattle.limits.specs.Limits.{up_to}

unfoldable pub units_of : Float → ℕ
units_of nan = 0
units_of (inf s) = 0
units_of (fin s m e) = m * up e * most_units / down e

-- 18: "light outside 0..1"; −0 is inside, and no NaN is
unfoldable pub light_outside : Float → Bool
light_outside x = not (up_to one32 x)
