-- What is looked up: the lights and the coefficients are two of a kind; and how the rows of both go.
use Rattle.std.specs.Prelude.{◌≡◌, ℕ, ◌*◌, ◌/◌, Bool, List, [], ◌∷◌, length, slice_index_or, refl, Ok, Err, Float}
use Rattle.std.proofs.Common.{sym, ◌∙◌, arith, mul-one, eqb-true}
use Rattle.std.proofs.Math.Nat.{mul-div_cancel}
use Rattle.std.proofs.lemmas.Bool.{not-false}
use Rattle.std.specs.Float.{nan}
use Rattle.names.specs.declared.refusal.Refusal.{Refusal}
use Rattle.names.specs.Answers.{number_of}
use Rattle.names.specs.Numbers.{light_limit}
use Rattle.names.specs.Refusals.{row, first_of, row_passed}
use Rattle.lists.specs.Some.{some}
use Rattle.lists.specs.Laid.{voxel_part}
use Rattle.vectors.specs.declared.Vec3.{Vec3}
use Rattle.grid.specs.declared.Axes.{Axes}
use Rattle.grid.specs.declared.Corners.{Corners}
use Rattle.grid.specs.Grid.{voxels}
use Rattle.limits.specs.Limits.{outside, bad_position, bad_coefficients}
use Rattle.lookup.specs.Place.{cells_of, cells_read}
use Rattle.lookup.specs.Lookup.{bad_light_cells, light_refusal, bad_volume_cells, coefficient_refusal, looked_rows, LookedLaws, GridGood, LookedUp}

pub light_laws : LookedLaws 1 (λ light i. outside light_limit (slice_index_or light i nan)) light_refusal
unfolding bad_light_cells
light_laws =
    record { some_numbers = omega arith; few_numbers = omega arith; rows = λ a c light p. rw (mul-one (voxels a)) refl }

pub coefficient_laws : LookedLaws 16 (λ volume i. bad_coefficients (voxel_part 16 i volume)) coefficient_refusal
unfolding bad_volume_cells
coefficient_laws =
    record { some_numbers = omega arith; few_numbers = omega arith; rows = λ a c volume p. refl }

module _ {each : ℕ} {bad : List Float → ℕ → Bool} {refusal : Axes → Corners → List Float → Vec3 → ℕ} (laws : LookedLaws each bad refusal) where
  -- a row that holds, and none
  pub looked_refused : {A : Type 0} (a : Axes) (c : Corners) (l : List Float) (p : Vec3) (found : A) (r : Refusal)
      → number_of r ≡ first_of (looked_rows each bad a c l p) → LookedUp (refusal a c l p) found (Err r)
  looked_refused a c l p found r e = record { number_is = e ∙ sym (laws.rows a c l p); there = tt }

  pub looked_found : {A : Type 0} (a : Axes) (c : Corners) (l : List Float) (p : Vec3) (found x : A)
      → 0 ≡ first_of (looked_rows each bad a c l p) → x ≡ found → LookedUp (refusal a c l p) found (Ok x)
  looked_found a c l p found x e f = record { number_is = e ∙ sym (laws.rows a c l p); there = f }

  -- a good grid has as many cells as the list has numbers for
  pub grid_cells : (a : Axes) (c : Corners) (l : List Float) → GridGood each a c l → voxels a ≡ length l / each
  grid_cells a c l g =
      let e : length l ≡ voxels a * each = eqb-true _ _ (not-false _ g.fits) in
      sym (rw e (mul-div_cancel (voxels a) laws.some_numbers))

-- of a good grid 11 and 13 are left
pub in_grid_rows : (each : ℕ) (bad : List Float → ℕ → Bool) (a : Axes) (c : Corners) (l : List Float) (p : Vec3) (n : ℕ) → GridGood each a c l
    → n ≡ first_of (row 11 (bad_position p) ∷ row 13 (some (bad l) (cells_read (cells_of a c p))) ∷ []) → n ≡ first_of (looked_rows each bad a c l p)
in_grid_rows each bad a c l p n g e = row_passed _ _ _ _ g.axes (row_passed _ _ _ _ g.grid (row_passed _ _ _ _ g.fits e))
