-- What is promised of a number that a lookup finds between eight cells. Definitions only.
use Rattle.std.specs.Prelude.{◌≡◌, true, ℕ, Float}
use Rattle.std.specs.Float.Ieee.{le}
use Rattle.names.specs.Bits.{zero32}
use Rattle.lookup.specs.declared.Cells.{Cells}
use Rattle.blend_laws.specs.Blendable.{Blendable, EachCell}
use Rattle.blend_laws.specs.Nearness.{NotFarAbove, NotFarBelow, BetweenThem}

-- x is found between the eight cells, at which f gives numbers from −2 ^ k to 2 ^ k
pub record FoundBetween (k : ℕ) (c : Cells) (f : ℕ → Float) (x : Float) : Type 0 where
  -- it is from −2 ^ k to 2 ^ k too
  pub within : Blendable k x
  -- it is not negative where none of the eight is
  pub not_negative : EachCell (λ i. le zero32 (f i) ≡ true) c → le zero32 x ≡ true
  -- none is below `least` nor above `greatest`: nor is it, up to the 2 ^ 20th part and eight units of 2 ^ -149
  pub spread : (least greatest : Float) → Blendable k least → Blendable k greatest → EachCell (λ i. le least (f i) ≡ true) c → EachCell (λ i. le (f i) greatest ≡ true) c
      → NotFarBelow 1048576 8 x least × NotFarAbove 1048576 8 x greatest
  -- where two coordinates come out whole it lies between two neighbours, up to the 2 ^ 22nd part and two units
  pub along_x_lem : c.y ≡ zero32 → c.z ≡ zero32 → BetweenThem 4194304 2 x (f c.c000) (f c.c100)
  pub along_y_is : c.x ≡ zero32 → c.z ≡ zero32 → BetweenThem 4194304 2 x (f c.c000) (f c.c010)
  pub along_z_lem : c.x ≡ zero32 → c.y ≡ zero32 → BetweenThem 4194304 2 x (f c.c000) (f c.c001)
