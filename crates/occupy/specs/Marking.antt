-- How the code marks the mask: sample by sample, row by row, triangle by triangle, from a mask of zeros. Assumes nothing.
use Rattle.std.specs.Prelude.{cond, List, ℕ, ◌-◌, ◌/◌, length, set, Float}
use Rattle.lists.specs.Fold.{fold}
use Rattle.vectors.specs.declared.Vec3.{Vec3}
use Rattle.vectors.specs.declared.Triangle.{Triangle}
use Rattle.grid.specs.declared.Axes.{Axes}
use Rattle.triangle.specs.Meet.{absent_of}
use Rattle.triangle.specs.Places.{triangle_at}
use Rattle.samples.specs.Samples.{sample_count, side_of, sample_cell}

abbrev pub unmarked : ℕ → ℕ
unmarked i = 0

-- a 1 at the voxel of a sample; a sample outside the grid has a place past the mask, where nothing is set
abbrev pub mark_sample : Axes → Vec3 → Vec3 → Triangle → ℕ → ℕ → ℕ → List ℕ → List ℕ
mark_sample axes low edges t n iu iv mask = set mask (sample_cell axes low edges t n iu iv) 1

unfoldable pub mark_row : Axes → Vec3 → Vec3 → Triangle → ℕ → ℕ → List ℕ → List ℕ
mark_row axes low edges t n iu mask = fold (mark_sample axes low edges t n iu) (n - iu) 0 mask

unfoldable pub mark_rows : Axes → Vec3 → Vec3 → Triangle → ℕ → List ℕ → List ℕ
mark_rows axes low edges t n mask = fold (mark_row axes low edges t n) n 0 mask

unfoldable pub mark_triangle : Axes → Vec3 → Vec3 → Float → Triangle → List ℕ → List ℕ
mark_triangle axes low edges e t mask = cond (absent_of t) mask (mark_rows axes low edges t (side_of (sample_count t e)) mask)

abbrev pub mark_place : Axes → Vec3 → Vec3 → Float → List Float → ℕ → List ℕ → List ℕ
mark_place axes low edges e points k mask = mark_triangle axes low edges e (triangle_at points k) mask

unfoldable pub mark_all : Axes → Vec3 → Vec3 → Float → List Float → List ℕ → List ℕ
mark_all axes low edges e points mask = fold (mark_place axes low edges e points) (length points / 9) 0 mask
