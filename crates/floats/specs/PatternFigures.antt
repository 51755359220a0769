-- What the six functions on patterns answer at zeros and halves, by computation. At every NaN and every negative specs/PatternLaws.antt says it.
use Rattle.std.specs.Prelude.{◌≡◌, refl, [], ◌∷◌, map}
use Rattle.std.specs.Float.Ieee as Ieee
use Rattle.floats.specs.Choice.{larger_of, smaller_of}
use Rattle.floats.specs.Patterns.{on_bits, on_both}
use Rattle.floats.specs.Root.{root_of}
use Rattle.floats.specs.Whole.{toward, floor_of, ceiling_of}

-- the root of −0 and +0
pub zero_roots : map (on_bits root_of) (0x80000000 ∷ 0 ∷ []) ≡ 0x80000000 ∷ 0 ∷ []
unfolding root_of Ieee.of_bits Ieee.to_bits
zero_roots = refl

-- floor and ceiling of −.5, .5 and −0
pub halves : map (on_bits floor_of) (0xbf000000 ∷ 0x3f000000 ∷ 0x80000000 ∷ []) ≡ 0xbf800000 ∷ 0 ∷ 0x80000000 ∷ []
unfolding toward Ieee.of_bits Ieee.to_bits Ieee.round
halves = refl

pub halves_up : map (on_bits ceiling_of) (0xbf000000 ∷ 0x3f000000 ∷ 0x80000000 ∷ []) ≡ 0x80000000 ∷ 0x3f800000 ∷ 0x80000000 ∷ []
unfolding toward Ieee.of_bits Ieee.to_bits Ieee.round
halves_up = refl

-- "−0 against +0 gives +0", and +0 against −0 gives −0
pub zeros : on_both larger_of 0x80000000 0 ∷ on_both smaller_of 0x80000000 0 ∷ on_both larger_of 0 0x80000000 ∷ on_both smaller_of 0 0x80000000 ∷ []
    ≡ 0 ∷ 0 ∷ 0x80000000 ∷ 0x80000000 ∷ []
unfolding larger_of smaller_of Ieee.of_bits Ieee.to_bits Ieee.is_nan Ieee.lt
zeros = refl
