-- How the code finds the active mask: the occupied mask is dilated along x, what came of it along y, and what came of that along z.
-- A list of voxels is a grid in three ways, whose middle axis is x, y or z; one definition dilates along a middle axis. Assumes nothing.
use Rattle.std.specs.Prelude.{Bool, cond, ◌&&◌, List, ℕ, ◌*◌}
use Rattle.lists.specs.Fold.{tab}
use Rattle.lists.specs.Any.{any}
use Rattle.grid.specs.declared.Axes.{Axes}
use Rattle.grid.specs.Grid.{voxels, index_of, x_of, y_of, z_of}
use Rattle.marks.specs.Marks.{is_marked}
use Rattle.dilate.specs.Active.{within_reach}

-- the line of voxels (r, .., o) has a mark within 2 of its place c
abbrev pub line_has : Axes → List ℕ → ℕ → ℕ → ℕ → Bool
line_has view mask r c o = any (λ j. is_marked mask (index_of view r j o) && within_reach j c) view.height 0

abbrev pub middle_entry : Axes → List ℕ → ℕ → ℕ
middle_entry view mask i = cond (line_has view mask (x_of view i) (y_of view i) (z_of view i)) 1 0

-- a grid dilated along its middle axis
unfoldable pub dilate_middle : Axes → List ℕ → List ℕ
dilate_middle view mask = tab (middle_entry view mask) (voxels view) 0

-- the same voxels as a grid whose middle axis is x; as they are, it is y; and as one whose middle axis is z
abbrev pub middle_x : Axes → Axes
middle_x axes = record { width = 1; height = axes.width; depth = axes.depth * axes.height }

abbrev pub middle_z : Axes → Axes
middle_z axes = record { width = axes.height * axes.width; height = axes.depth; depth = 1 }

-- along x, then y, then z
unfoldable pub dilate_by_axes : Axes → List ℕ → List ℕ
dilate_by_axes axes occupied = dilate_middle (middle_z axes) (dilate_middle axes (dilate_middle (middle_x axes) occupied))
