-- The 3×3×3 mean. A list holds `stride` numbers for each voxel of a grid of w × h × d, and voxel (x, y, z) is number (z * h + y) * w + x.
-- Of each number the mean is taken over the voxels in the grid that lie within 1 on every axis: summed in z, y, x order from +0, and divided by how
-- many they are. BoxLaws.antt shows that these are the voxels, and how many. Assumes nothing.
use Rattle.std.specs.Prelude.{List, ℕ, ◌+◌, ◌-◌, ◌*◌, ◌/◌, ◌%◌, min, pos, get_or, length, Float}
use Rattle.std.specs.Float.{nan, binary32}
use Rattle.std.specs.Float.Ieee.{add, div, mul, of_int}
use Rattle.names.specs.Bits.{zero32}
use Rattle.lists.specs.Fold.{fold, tab}

-- the first coordinate within 1 of x, which is 0 where x is 0; and the one past the last on an axis of n
abbrev pub first_near : ℕ → ℕ
first_near x = x - 1

abbrev pub past_near : ℕ → ℕ → ℕ
past_near x n = min (x + 2) n

-- how many they are
abbrev pub near : ℕ → ℕ → ℕ
near x n = past_near x n - first_near x

module _ {A : Type 0} where
  -- a step for each coordinate within 1 of x on an axis of n, ascending
  unfoldable pub along : ℕ → ℕ → (ℕ → A → A) → A → A
  along x n step s = fold step (near x n) (first_near x) s

  -- a step for each voxel round (x, y, z), in z, y, x order
  unfoldable pub around : ℕ → ℕ → ℕ → ℕ → ℕ → ℕ → (ℕ → A → A) → A → A
  around w h d x y z step s = along z d (λ k. along y h (λ j. along x w (λ i. step ((k * h + j) * w + i)))) s

-- the number at place c of voxel v added to a sum
abbrev pub plus : List Float → ℕ → ℕ → ℕ → Float → Float
plus src stride c v s = add binary32 s (get_or src (v * stride + c) nan)

-- one voxel more
abbrev pub one_more : ℕ → ℕ → ℕ
one_more v n = n + 1

-- the mean of the numbers at place c of the voxels round (x, y, z)
unfoldable pub mean_in : List Float → ℕ → ℕ → ℕ → ℕ → ℕ → ℕ → ℕ → ℕ → Float
mean_in src stride c w h d x y z =
    div binary32 (around w h d x y z (plus src stride c) zero32) (of_int binary32 (pos (around w h d x y z one_more 0)))

-- of the list's number i: its place in its voxel, and the voxel's coordinates
unfoldable pub mean_at : List Float → ℕ → ℕ → ℕ → ℕ → ℕ → Float
mean_at src stride w h d i = mean_in src stride (i % stride) w h d (i / stride % w) (i / stride / w % h) (i / stride / w / h)

unfoldable pub mean_of : List Float → ℕ → ℕ → ℕ → ℕ → List Float
mean_of src stride w h d = tab (mean_at src stride w h d) (length src) 0

-- the light's blur, one number a voxel: the mean's square
unfoldable pub square_at : List Float → ℕ → ℕ → ℕ → ℕ → Float
square_at src w h d i = mul binary32 (mean_at src 1 w h d i) (mean_at src 1 w h d i)

unfoldable pub light_blur_of : List Float → ℕ → ℕ → ℕ → List Float
light_blur_of src w h d = tab (square_at src w h d) (length src) 0

-- the blur of the sixteen numbers a voxel: the mean
abbrev pub coefficient_blur_of : List Float → ℕ → ℕ → ℕ → List Float
coefficient_blur_of src w h d = mean_of src 16 w h d
