-- What a blur leaves at voxel (x, y, z): of light the square of the mean round that voxel, of each of the sixteen numbers the mean itself.
use Rattle.std.specs.Prelude.{◌≡◌, List, ℕ, ◌+◌, ◌*◌, ◌/◌, ◌%◌, ◌<◌, length, get_or, Float}
use Rattle.std.proofs.Math.Path.{refl}
use Rattle.std.proofs.Math.Nat.{zero-add, div-one, mod-one}
use native.Mathlib.Omega.{arith}
use Rattle.std.specs.Float.Ieee.{nan, mul}
use Rattle.std.specs.Float.{binary32}
use Rattle.lists.specs.Fold.{get_or_tab}
use Rattle.grid.specs.declared.Axes.{Axes}
use Rattle.grid.specs.Grid.{voxels, index_of}
use Rattle.grid.specs.GridLaws.{index_within_lem, x_of_index, y_of_index, z_of_index}
use Rattle.means.specs.Box.{light_blur_of, square_at, coefficient_blur_of, mean_of, mean_at, mean_in}

module _ (a : Axes) (x y z : ℕ) (px : x < a.width) (py : y < a.height) (pz : z < a.depth) where
  -- the mean of voxel (x, y, z)'s light
  abbrev light_mean : List Float → Float
  light_mean light = mean_in light 1 0 a.width a.height a.depth x y z

  pub light_blurred_at : (light : List Float) → length light ≡ voxels a
      → get_or (light_blur_of light a.width a.height a.depth) (index_of a x y z) nan ≡ mul binary32 (light_mean light) (light_mean light)
  unfolding light_blur_of square_at mean_at
  light_blurred_at light e =
      let i = index_of a x y z in
      let h = index_within_lem a x y z px py pz in
      rw (get_or_tab (square_at light a.width a.height a.depth) (length light) 0 i nan (omega arith), zero-add i, mod-one i, div-one i, x_of_index a x y z px, y_of_index a x y z px py, z_of_index a x y z px py) refl

  pub coefficients_blurred_at : (volume : List Float) (c : ℕ) → c < 16 → length volume ≡ voxels a * 16
      → get_or (coefficient_blur_of volume a.width a.height a.depth) (index_of a x y z * 16 + c) nan
      ≡ mean_in volume 16 c a.width a.height a.depth x y z
  unfolding mean_of mean_at
  coefficients_blurred_at volume c q e =
      let v = index_of a x y z in
      let i = v * 16 + c in
      let h = index_within_lem a x y z px py pz in
      let m : i % 16 ≡ c = omega arith in
      let d : i / 16 ≡ v = omega arith in
      rw (get_or_tab (mean_at volume 16 a.width a.height a.depth) (length volume) 0 i nan (omega (arith, h)), zero-add i, m, d, x_of_index a x y z px, y_of_index a x y z px py, z_of_index a x y z px py) refl
