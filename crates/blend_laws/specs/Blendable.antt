-- What a blend is made of: two values of some size, and how far it goes from the first to the second. Definitions only.
use Rattle.std.specs.Prelude.{◌≡◌, true, ℕ, ◌-◌, ◌*◌, ◌^◌, T, Float}
use Rattle.std.specs.Float.{binary32}
use Rattle.std.specs.Float.Ieee.{fits, le}
use Rattle.std.specs.Float.Ieee.Scale.{grid}
use Rattle.names.specs.Bits.{one32}
use Rattle.limits.specs.Limits.{up_to}
use Rattle.bounds.specs.Bounds.{Within}
use Rattle.lookup.specs.declared.Cells.{Cells}

-- a finite f32, from −2 ^ k to 2 ^ k: of an accepted light k is 64, of an accepted coefficient 96
pub record Blendable (k : ℕ) (x : Float) : Type 0 where
  pub fit : T (fits binary32 x)
  pub within : Within k x

-- two such values, the second no less than the first
pub record Raised (k : ℕ) (a b : Float) : Type 0 where
  pub first : Blendable k a
  pub second : Blendable k b
  pub order : le a b ≡ true

-- two such values that are one number: a zero may differ in its sign
pub record SameNumber (k : ℕ) (a b : Float) : Type 0 where
  pub first : Blendable k a
  pub second : Blendable k b
  pub no_more : le a b ≡ true
  pub no_less : le b a ≡ true

-- an f32 from 0 to 1
pub record Weight (t : Float) : Type 0 where
  pub fit : T (fits binary32 t)
  pub from_to : up_to one32 t ≡ true

-- how many units of 2 ^ -149 1 − t is, rounded, for a t of so many
unfoldable pub rest_units : ℕ → ℕ
rest_units t = grid binary32 (2 ^ 149 - t) (2 ^ 149)

-- and how many a value of so many is, times a weight of so many
unfoldable pub part_units : ℕ → ℕ → ℕ
part_units a t = grid binary32 (a * t) (2 ^ 149 * 2 ^ 149)

-- ---- between eight cells

-- P holds of each
pub record EachCell (P : ℕ → Type 0) (c : Cells) : Type 0 where
  pub c000 : P c.c000
  pub c100 : P c.c100
  pub c010 : P c.c010
  pub c110 : P c.c110
  pub c001 : P c.c001
  pub c101 : P c.c101
  pub c011 : P c.c011
  pub c111 : P c.c111

-- the three fractions
pub record Weights (c : Cells) : Type 0 where
  pub x : Weight c.x
  pub y : Weight c.y
  pub z : Weight c.z
