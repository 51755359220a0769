-- A function of floats on bit patterns. Every pattern of a NaN stands for the one NaN, whose own pattern is 0x7fc00000.
-- Definitions only: specs/PatternLaws.antt says what they mean.
use Rattle.std.specs.Prelude.{◌≡◌, ℕ, ◌/◌, ◌%◌, ◌<◌, Float}
use Rattle.std.specs.Float.{binary32}
use Rattle.std.specs.Float.Ieee.{of_bits, to_bits}

abbrev pub on_bits : (Float → Float) → ℕ → ℕ
on_bits f b = to_bits binary32 (f (of_bits binary32 b))

abbrev pub on_both : (Float → Float → Float) → ℕ → ℕ → ℕ
on_both f b c = to_bits binary32 (f (of_bits binary32 b) (of_bits binary32 c))

-- b is a pattern of a NaN, of either sign: the eight digits of the exponent are all 1, and of the 23 below not all are 0
pub record NanPattern (b : ℕ) : Type 0 where
  pub exponent : b / 0x800000 % 256 ≡ 255
  pub fraction : 0 < b % 0x800000
