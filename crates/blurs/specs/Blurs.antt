-- The two blurs. "Then blur: sum in z,y,x order over the in-grid 3×3×3, divide by the count, square"; "scratch gets the unblurred volume and the volume
-- its 3×3×3 mean". Either call tests 1, 3 and 13, in that order; the contents of scratch are never tested. Assumes nothing.
use Rattle.std.specs.Prelude.{◌≡◌, Bool, ◌||◌, List, [], ◌∷◌, ℕ, ◌*◌, length, Float}
use Rattle.names.specs.Refusals.{Row, row, first_of, unless_refused}
use Rattle.grid.specs.declared.Axes.{Axes}
use Rattle.grid.specs.Grid.{voxels}
use Rattle.limits.specs.Limits.{bad_axes, wrong_length, bad_lights, bad_coefficients}
use Rattle.means.specs.Box.{light_blur_of, coefficient_blur_of}

-- one of two lists does not have `stride` numbers for each voxel
unfoldable pub wrong_blur_lists : Axes → ℕ → List Float → List Float → Bool
wrong_blur_lists axes stride list scratch = wrong_length (length list) (voxels axes * stride) || wrong_length (length scratch) (voxels axes * stride)

-- ---- light

abbrev pub light_blur_rows : Axes → List Float → List Float → List Row
light_blur_rows axes light scratch = row 1 (bad_axes axes) ∷ row 3 (wrong_blur_lists axes 1 light scratch) ∷ row 13 (bad_lights light) ∷ []

unfoldable pub light_blur_refusal : Axes → List Float → List Float → ℕ
light_blur_refusal axes light scratch = first_of (light_blur_rows axes light scratch)

pub record LightBlurred (axes : Axes) (light scratch : List Float) (r : ℕ) (light' scratch' : List Float) : Type 0 where
  pub answer : r ≡ light_blur_refusal axes light scratch
  pub light_after : light' ≡ unless_refused r (light_blur_of light axes.width axes.height axes.depth) light
  pub scratch_after : scratch' ≡ unless_refused r light scratch

-- ---- the sixteen numbers

abbrev pub coefficient_blur_rows : Axes → List Float → List Float → List Row
coefficient_blur_rows axes volume scratch =
    row 1 (bad_axes axes) ∷ row 3 (wrong_blur_lists axes 16 volume scratch) ∷ row 13 (bad_coefficients volume) ∷ []

unfoldable pub coefficient_blur_refusal : Axes → List Float → List Float → ℕ
coefficient_blur_refusal axes volume scratch = first_of (coefficient_blur_rows axes volume scratch)

pub record CoefficientsBlurred (axes : Axes) (volume scratch : List Float) (r : ℕ) (volume' scratch' : List Float) : Type 0 where
  pub answer : r ≡ coefficient_blur_refusal axes volume scratch
  pub volume_after_is : volume' ≡ unless_refused r (coefficient_blur_of volume axes.width axes.height axes.depth) volume
  pub scratch_after : scratch' ≡ unless_refused r volume scratch
