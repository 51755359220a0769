-- "Active exactly when some occupied voxel lies within 2 on every axis." Over coordinates: nothing here says how such a voxel is looked for.
-- Assumes nothing.
use Rattle.std.specs.Prelude.{Bool, cond, ◌&&◌, List, ℕ, ◌+◌, leb}
use Rattle.names.specs.Numbers.{reach}
use Rattle.lists.specs.Fold.{tab}
use Rattle.lists.specs.Any.{any}
use Rattle.grid.specs.declared.Axes.{Axes}
use Rattle.grid.specs.Grid.{voxels, index_of, x_of, y_of, z_of}
use Rattle.marks.specs.Marks.{is_marked}

-- a and b lie within reach of each other on an axis
abbrev pub within_reach : ℕ → ℕ → Bool
within_reach a b = leb a (b + reach) && leb b (a + reach)

-- whether f holds of some voxel's coordinates
abbrev pub some_voxel : Axes → (ℕ → ℕ → ℕ → Bool) → Bool
some_voxel axes f = any (λ z. any (λ y. any (λ x. f x y z) axes.width 0) axes.height 0) axes.depth 0

-- voxel (x, y, z) is active
unfoldable pub active_in : Axes → List ℕ → ℕ → ℕ → ℕ → Bool
active_in axes occupied x y z = some_voxel axes (λ i j k. is_marked occupied (index_of axes i j k) && (within_reach i x && (within_reach j y && within_reach k z)))

-- entry i of the active mask
unfoldable pub active_entry : Axes → List ℕ → ℕ → ℕ
active_entry axes occupied i = cond (active_in axes occupied (x_of axes i) (y_of axes i) (z_of axes i)) 1 0

unfoldable pub active_of : Axes → List ℕ → List ℕ
active_of axes occupied = tab (active_entry axes occupied) (voxels axes) 0
