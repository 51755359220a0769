-- The biases of a bake, by which its rays start. gi.rs decides every order; each operation is rounded once. Definitions only.
use Rattle.std.specs.Float.Ieee as Ieee
use Rattle.std.specs.Prelude.{Float}
use Rattle.std.specs.Float.{binary32}
use Rattle.names.specs.Bits.{lit, half32}
use Rattle.floats.specs.Choice.{larger_of}
use Rattle.bounce.specs.declared.Biases.{Biases}

-- max(.35·diagonal, 4·1e-4)
abbrev pub primary_bias : Float → Float
primary_bias diagonal = larger_of (Ieee.mul binary32 diagonal (lit 0x3eb33333)) (lit 0x39d1b717)

-- max(.05·diagonal, 8·1e-4)
abbrev pub hit_bias : Float → Float
hit_bias diagonal = larger_of (Ieee.mul binary32 diagonal (lit 0x3d4ccccd)) (lit 0x3a51b717)

-- max(.15·smallest edge, 1e-4)
abbrev pub bake_shortest : Float → Float
bake_shortest smallest = larger_of (Ieee.mul binary32 smallest (lit 0x3e19999a)) (lit 0x38d1b717)

-- from the voxel's diagonal and its smallest edge; the step along a secondary ray is half the hit bias
unfoldable pub biases_of : Float → Float → Biases
biases_of diagonal smallest =
    record { primary = primary_bias diagonal; hit = hit_bias diagonal; step = Ieee.mul binary32 (hit_bias diagonal) half32; shortest = bake_shortest smallest }
