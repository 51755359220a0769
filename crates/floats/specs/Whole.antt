-- Floor and ceiling, as IEEE 754's roundToIntegralTowardNegative and roundToIntegralTowardPositive; and a number as an integer.
-- Definitions only: specs/FloorLaws.antt and specs/WholeLaws.antt say what they mean.
use Rattle.std.specs.Prelude.{◌≡◌, ℕ, ◌+◌, ◌*◌, ◌/◌, ◌%◌, Bool, true, false, cond, T, eqb, Float}
use Rattle.std.specs.Float.{nan, inf, fin, binary32}
use Rattle.std.specs.Float.Ieee.{up, down, unlike, fits, round, lt, le}
use Rattle.names.specs.Bits.{lit, zero32}
use Rattle.floats.specs.Units.{InUnits}

-- The whole number next to a / c: the whole part, or where `away` is true and a / c is not whole, one more
unfoldable pub step : Bool → ℕ → ℕ → ℕ
step away a c = cond away (cond (eqb (a % c) 0) (a / c) (a / c + 1)) (a / c)

-- x to a whole number: up where `u` is true, and down where not. The magnitude grows where x is positive and goes up, or is negative and goes down.
-- The result has x's sign, also where it is 0. (`round` at a whole number of an f32's size changes nothing.)
unfoldable pub toward : Bool → Float → Float
unfolding step
toward u nan = nan
toward u (inf s) = inf s
toward u (fin s m e) = round binary32 s (step (unlike s u) (m * up e) (down e)) 1

abbrev pub floor_of : Float → Float
floor_of x = toward false x

abbrev pub ceiling_of : Float → Float
ceiling_of x = toward true x

-- ---- what floor and ceiling are, as IEEE 754 says it: the relation that `toward` meets, and that no other f32 meets

-- z is x or lies further on: not below x where `u` is true, and not above it where not
abbrev pub onward : Bool → Float → Float → Bool
onward true x z = le x z
onward false x z = le z x

-- y is an f32 and a whole number, of the sign s. Where `u` is false it is not above x, and no whole number that is not above x is larger;
-- where true it is not below x, and none that is not below x is smaller: of all whole numbers, f32s or not.
pub record FirstWhole (u s : Bool) (x y : Float) : Type 0 where
  pub single : T (fits binary32 y)
  pub whole : InUnits 1 y
  pub sign : whole.negative ≡ s
  pub on : onward u x y ≡ true
  pub first : (z : Float) → InUnits 1 z → onward u x z ≡ true → onward u y z ≡ true

-- y is that number, with x's own sign; NaN gives NaN, and an infinity itself
unfoldable pub WholeFrom : Bool → Float → Float → Type 0
WholeFrom u nan y = y ≡ nan
WholeFrom u (inf s) y = y ≡ inf s
WholeFrom u (fin s m e) y = FirstWhole u s (fin s m e) y

-- y is the floor of x
abbrev pub FloorOf : Float → Float → Type 0
FloorOf x y = WholeFrom false x y

-- y is the ceiling of x
abbrev pub CeilingOf : Float → Float → Type 0
CeilingOf x y = WholeFrom true x y

-- ---- a number as an integer

-- the whole part of x's size, and 0 of NaN and of an infinity
unfoldable pub whole_of : Float → ℕ
whole_of nan = 0
whole_of (inf s) = 0
whole_of (fin s m e) = m * up e / down e

-- x is a whole number, from 0 up (−0 too) and below 65,536
pub record SmallWhole (x : Float) : Type 0 where
  pub whole : floor_of x ≡ x
  pub least : lt x zero32 ≡ false
  pub most : lt x (lit 0x47800000) ≡ true
