-- What the fill leaves: sixteen numbers a voxel, each number at its place.
use Rattle.std.specs.Prelude.{◌≡◌, refl, List, ℕ, ◌<◌, ◌*◌, length, Float}
use Rattle.lists.specs.Laid.{voxel_part, length_laid, part_of_laid}
use Rattle.limits.specs.declared.Ambient.{Ambient}
use Rattle.ends.specs.Ends.{ambient_voxel, ambient_at, filled_of}

pub length_ambient : (a : Ambient) (light : Float) → length (ambient_voxel a light) ≡ 16
unfolding ambient_voxel
length_ambient a light = refl

pub length_filled : (a : Ambient) (lights : List Float) → length (filled_of a lights) ≡ length lights * 16
unfolding filled_of
length_filled a lights = length_laid 16 (ambient_at a lights) (λ i. length_ambient a _) (length lights) 0

pub filled_voxel : (a : Ambient) (lights : List Float) (i : ℕ) → i < length lights → voxel_part 16 i (filled_of a lights) ≡ ambient_at a lights i
unfolding filled_of
filled_voxel a lights i h = part_of_laid 16 (ambient_at a lights) (λ j. length_ambient a _) i (length lights) h
