-- Floats by their bits. Assumes nothing.
use Rattle.std.specs.Prelude.{ℕ, Float}
use Rattle.std.specs.Float.{binary32}
use Rattle.std.specs.Float.Ieee.{of_bits}

-- the f32 of a bit pattern
abbrev pub lit : ℕ → Float
lit bits = of_bits binary32 bits

abbrev pub zero32 : Float
zero32 = lit 0

abbrev pub quarter32 : Float
quarter32 = lit 0x3e800000

abbrev pub half32 : Float
half32 = lit 0x3f000000

abbrev pub one32 : Float
one32 = lit 0x3f800000

abbrev pub two32 : Float
two32 = lit 0x40000000

-- the infinity above every number
abbrev pub inf32 : Float
inf32 = lit 0x7f800000
