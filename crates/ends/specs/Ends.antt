-- The two ends of a bake. Before its first voxel the volume is filled: each voxel's coefficients are ambient's colours, with the voxel's light
-- in coefficient 0's fourth place, 1.0 in coefficient 1's, and +0 in the other two. After its last, where any voxel of the whole mask is active,
-- scratch gets the unblurred volume and the volume its 3×3×3 mean. Assumes nothing.
use Rattle.std.specs.Prelude.{◌≡◌, cond, List, [], ◌∷◌, ℕ, length, get_or, Float}
use Rattle.std.specs.Float.{nan}
use Rattle.names.specs.Bits.{zero32, one32}
use Rattle.lists.specs.Laid.{laid}
use Rattle.spread.specs.Spread.{any_active}
use Rattle.grid.specs.declared.Axes.{Axes}
use Rattle.limits.specs.declared.Ambient.{Ambient}
use Rattle.means.specs.Box.{coefficient_blur_of}
use Rattle.marks.specs.Marks.{is_marked}

-- the sixteen numbers of a voxel that is not baked, by its light
unfoldable pub ambient_voxel : Ambient → Float → List Float
ambient_voxel a light =
    a.c0.x ∷ a.c0.y ∷ a.c0.z ∷ light
    ∷ a.c1.x ∷ a.c1.y ∷ a.c1.z ∷ one32
    ∷ a.c2.x ∷ a.c2.y ∷ a.c2.z ∷ zero32
    ∷ a.c3.x ∷ a.c3.y ∷ a.c3.z ∷ zero32
    ∷ []

-- of voxel i, by the list of lights
abbrev pub ambient_at : Ambient → List Float → ℕ → List Float
ambient_at a lights i = ambient_voxel a (get_or lights i nan)

unfoldable pub filled_of : Ambient → List Float → List Float
filled_of a lights = laid (ambient_at a lights) (length lights) 0

-- the mean of the sixteen numbers a voxel
abbrev pub mean_over : Axes → List Float → List Float
mean_over axes volume = coefficient_blur_of volume axes.width axes.height axes.depth

pub record Finished (axes : Axes) (active : List ℕ) (v s volume' scratch' : List Float) : Type 0 where
  pub volume : volume' ≡ cond (any_active (is_marked active) (length active)) (mean_over axes v) v
  pub scratch : scratch' ≡ cond (any_active (is_marked active) (length active)) v s
