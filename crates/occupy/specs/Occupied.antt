-- A voxel is occupied exactly when some sample of some triangle that is not absent falls into it. Assumes nothing.
use Rattle.std.specs.Prelude.{Bool, cond, not, ◌&&◌, List, ℕ, ◌-◌, ◌/◌, eqb, length, Float}
use Rattle.lists.specs.Fold.{tab}
use Rattle.lists.specs.Any.{any}
use Rattle.vectors.specs.declared.Vec3.{Vec3}
use Rattle.vectors.specs.declared.Triangle.{Triangle}
use Rattle.grid.specs.declared.Axes.{Axes}
use Rattle.grid.specs.declared.Corners.{Corners}
use Rattle.grid.specs.Grid.{voxels, edges_of, smallest_edge_of}
use Rattle.triangle.specs.Meet.{absent_of}
use Rattle.triangle.specs.Places.{triangle_at}
use Rattle.samples.specs.Samples.{sample_count, side_of, sample_cell}

-- some sample (iu, iv) of n a side, iu < n and iv < n − iu, falls into voxel i
unfoldable pub sampled_in : Axes → Vec3 → Vec3 → Triangle → ℕ → ℕ → Bool
sampled_in axes low edges t n i = any (λ iu. any (λ iv. eqb (sample_cell axes low edges t n iu iv) i) (n - iu) 0) n 0

-- a triangle that is not absent has such a sample, e being the smallest edge
unfoldable pub touches : Axes → Vec3 → Vec3 → Float → Triangle → ℕ → Bool
touches axes low edges e t i = not (absent_of t) && sampled_in axes low edges t (side_of (sample_count t e)) i

-- a triangle of the list, nine numbers each, touches voxel i
unfoldable pub occupied_in : Axes → Corners → List Float → ℕ → Bool
occupied_in axes corners points i =
    let edges = edges_of corners axes in
    any (λ k. touches axes corners.min edges (smallest_edge_of edges) (triangle_at points k) i) (length points / 9) 0

-- entry i of the occupied mask
unfoldable pub occupied_entry : Axes → Corners → List Float → ℕ → ℕ
occupied_entry axes corners points i = cond (occupied_in axes corners points i) 1 0

unfoldable pub occupied_of : Axes → Corners → List Float → List ℕ
occupied_of axes corners points = tab (occupied_entry axes corners points) (voxels axes) 0
