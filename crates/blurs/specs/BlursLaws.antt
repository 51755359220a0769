-- The contracts of the blurs leave one result, a call is refused by row k exactly when that row holds and none before it, an accepted call has lists that
-- fit its grid, and a good call is accepted.
use Rattle.std.specs.Prelude.{◌≡◌, refl, false, List, [], ◌∷◌, ℕ, ◌+◌, ◌*◌, ◌<◌, length, Float}
use Rattle.std.proofs.Common.{sym, ◌∙◌, arith, eqb-true}
use Rattle.std.specs.Float.Ieee.{of_bits, of_fields, add, div, mul, neg, le, lt, eq, of_int, round, sum, units, odd, size, climb, span}
use Rattle.std.proofs.lemmas.Bool.{not-false}
use Rattle.names.specs.Bits.{quarter32, half32, one32, two32, zero32}
use Rattle.names.specs.Refusals.{first_of, RefusedBy, refused_by, kept, given}
use Rattle.lists.specs.Fold.{fold, tab, place}
use Rattle.grid.specs.declared.Axes.{Axes}
use Rattle.grid.specs.Grid.{voxels, AxesWithin}
use Rattle.limits.specs.Limits.{within, bad_axes, bad_lights, bad_coefficients, wrong_length}
use Rattle.limits.specs.LimitsLaws.{axes_row, either}
use Rattle.lists.specs.Some.{some}
use Rattle.means.specs.Box.{light_blur_of, square_at, coefficient_blur_of, mean_of, mean_at, mean_in, around, along}
use Rattle.means.specs.BoxLaws.{Neighbour}
use Rattle.names.specs.Passed.{passed}
use Rattle.blurs.specs.Blurs.{wrong_blur_lists, light_blur_rows, light_blur_refusal, LightBlurred, coefficient_blur_rows, coefficient_blur_refusal, CoefficientsBlurred}

-- ---- one result

pub record SameBlur (r r' : ℕ) (list list' scratch scratch' : List Float) : Type 0 where
  pub same_answer : r ≡ r'
  pub same_list : list ≡ list'
  pub same_scratch : scratch ≡ scratch'

pub light_blurred_once : (axes : Axes) (light scratch : List Float) (r₁ r₂ : ℕ) (l₁ s₁ l₂ s₂ : List Float)
    → LightBlurred axes light scratch r₁ l₁ s₁ → LightBlurred axes light scratch r₂ l₂ s₂ → SameBlur r₁ r₂ l₁ l₂ s₁ s₂
light_blurred_once axes light scratch r₁ r₂ l₁ s₁ l₂ s₂ a b =
    let e : r₁ ≡ r₂ = a.answer ∙ sym b.answer in
    record { same_answer = e; same_list = a.light_after ∙ rw e (sym b.light_after); same_scratch = a.scratch_after ∙ rw e (sym b.scratch_after) }

pub coefficients_blurred_once : (axes : Axes) (volume scratch : List Float) (r₁ r₂ : ℕ) (v₁ s₁ v₂ s₂ : List Float)
    → CoefficientsBlurred axes volume scratch r₁ v₁ s₁ → CoefficientsBlurred axes volume scratch r₂ v₂ s₂ → SameBlur r₁ r₂ v₁ v₂ s₁ s₂
coefficients_blurred_once axes volume scratch r₁ r₂ v₁ s₁ v₂ s₂ a b =
    let e : r₁ ≡ r₂ = a.answer ∙ sym b.answer in
    record { same_answer = e; same_list = a.volume_after_is ∙ rw e (sym b.volume_after_is); same_scratch = a.scratch_after ∙ rw e (sym b.scratch_after) }

-- ---- k is refused exactly when row k holds and none before it, and a call is accepted exactly when none holds

pub light_blur_refused_by : (axes : Axes) (light scratch : List Float) (r : ℕ) (light' scratch' : List Float)
    → LightBlurred axes light scratch r light' scratch' → RefusedBy (light_blur_rows axes light scratch) r
unfolding light_blur_refusal
light_blur_refused_by axes light scratch r light' scratch' p =
    refused_by (light_blur_rows axes light scratch) r (omega arith, (omega arith, (omega arith, tt))) p.answer

pub coefficient_blur_refused_by : (axes : Axes) (volume scratch : List Float) (r : ℕ) (volume' scratch' : List Float)
    → CoefficientsBlurred axes volume scratch r volume' scratch' → RefusedBy (coefficient_blur_rows axes volume scratch) r
unfolding coefficient_blur_refusal
coefficient_blur_refused_by axes volume scratch r volume' scratch' p =
    refused_by (coefficient_blur_rows axes volume scratch) r (omega arith, (omega arith, (omega arith, tt))) p.answer

-- ---- what an accepted call has

pub record FittingLists (axes : Axes) (stride : ℕ) (list scratch : List Float) : Type 0 where
  pub axes_within : AxesWithin axes
  pub list_fits : length list ≡ voxels axes * stride
  pub scratch_fits : length scratch ≡ voxels axes * stride

fitting : (axes : Axes) (stride : ℕ) (list scratch : List Float) → bad_axes axes ≡ false → wrong_blur_lists axes stride list scratch ≡ false
    → FittingLists axes stride list scratch
unfolding wrong_blur_lists
fitting axes stride list scratch a e =
    let p = (either (wrong_length (length list) (voxels axes * stride)) (wrong_length (length scratch) (voxels axes * stride))).0 e in
    record {
      axes_within = (axes_row axes).0 a;
      list_fits = eqb-true _ _ (not-false _ p.0);
      scratch_fits = eqb-true _ _ (not-false _ p.1);
    }

pub light_blur_fitting : (axes : Axes) (light scratch : List Float) → light_blur_refusal axes light scratch ≡ 0 → FittingLists axes 1 light scratch
unfolding light_blur_refusal
light_blur_fitting axes light scratch e =
    let p = passed (light_blur_rows axes light scratch) (omega arith, (omega arith, (omega arith, tt))) e in
    fitting axes 1 light scratch p.0 p.1.0

pub coefficient_blur_fitting : (axes : Axes) (volume scratch : List Float) → coefficient_blur_refusal axes volume scratch ≡ 0 → FittingLists axes 16 volume scratch
unfolding coefficient_blur_refusal
coefficient_blur_fitting axes volume scratch e =
    let p = passed (coefficient_blur_rows axes volume scratch) (omega arith, (omega arith, (omega arith, tt))) e in
    fitting axes 16 volume scratch p.0 p.1.0

-- ---- what a mean reads lies in the list: number c of a voxel that is in the grid

pub read_within : (w h d x y z v stride c : ℕ) → Neighbour w h d x y z v → c < stride → v * stride + c < d * h * w * stride
read_within w h d x y z v stride c o h' = place (rw o.at (place (place o.in_z.0 o.in_y.0) o.in_x.0)) h'

-- ---- how a call meets its contract

pub light_refused : (axes : Axes) (light scratch : List Float) (r : ℕ) → r ≡ light_blur_refusal axes light scratch → (r ≡ 0 → ⊥)
    → LightBlurred axes light scratch r light scratch
light_refused axes light scratch r e n = record { answer = e; light_after = kept r _ light n; scratch_after = kept r _ scratch n }

pub light_blurred : (axes : Axes) (light scratch light' scratch' : List Float) → 0 ≡ light_blur_refusal axes light scratch → scratch' ≡ light
    → light' ≡ light_blur_of scratch' axes.width axes.height axes.depth
    → LightBlurred axes light scratch 0 light' scratch'
light_blurred axes light scratch light' scratch' e s l =
    record { answer = e; light_after = l ∙ rw s (given 0 _ light refl); scratch_after = s ∙ given 0 light scratch refl }

pub coefficients_refused : (axes : Axes) (volume scratch : List Float) (r : ℕ) → r ≡ coefficient_blur_refusal axes volume scratch → (r ≡ 0 → ⊥)
    → CoefficientsBlurred axes volume scratch r volume scratch
coefficients_refused axes volume scratch r e n = record { answer = e; volume_after_is = kept r _ volume n; scratch_after = kept r _ scratch n }

pub coefficients_blurred : (axes : Axes) (volume scratch volume' scratch' : List Float) → 0 ≡ coefficient_blur_refusal axes volume scratch
    → scratch' ≡ volume
    → volume' ≡ coefficient_blur_of scratch' axes.width axes.height axes.depth
    → CoefficientsBlurred axes volume scratch 0 volume' scratch'
coefficients_blurred axes volume scratch volume' scratch' e s l =
    record { answer = e; volume_after_is = l ∙ rw s (given 0 _ volume refl); scratch_after = s ∙ given 0 volume scratch refl }

-- ---- good calls: one voxel at .5, and two at 1 and 0

abbrev axes_of : ℕ → ℕ → ℕ → Axes
axes_of w h d = record { width = w; height = h; depth = d }

pub half_accepted : light_blur_refusal (axes_of 1 1 1) (half32 ∷ []) (zero32 ∷ []) ≡ 0
unfolding light_blur_refusal first_of bad_axes wrong_blur_lists bad_lights some within of_bits of_fields odd neg le lt eq
half_accepted = refl

pub half_blurred : light_blur_of (half32 ∷ []) 1 1 1 ≡ quarter32 ∷ []
unfolding light_blur_of square_at mean_at mean_in around along fold tab of_bits of_fields add div mul of_int round sum units odd size climb span
half_blurred = refl

pub pair_accepted : light_blur_refusal (axes_of 2 1 1) (one32 ∷ zero32 ∷ []) (zero32 ∷ zero32 ∷ []) ≡ 0
unfolding light_blur_refusal first_of bad_axes wrong_blur_lists bad_lights some within of_bits of_fields odd neg le lt eq
pair_accepted = refl

pub pair_blurred : light_blur_of (one32 ∷ zero32 ∷ []) 2 1 1 ≡ quarter32 ∷ quarter32 ∷ []
unfolding light_blur_of square_at mean_at mean_in around along fold tab of_bits of_fields add div mul of_int round sum units odd size climb span
pair_blurred = refl

-- sixteen numbers of one voxel, which is its only neighbour: each is its own mean, and is not squared
abbrev sixteen_numbers : List Float
sixteen_numbers =
    one32 ∷ half32 ∷ zero32 ∷ two32 ∷ half32 ∷ half32 ∷ one32 ∷ zero32 ∷ two32 ∷ one32 ∷ half32 ∷ zero32 ∷ zero32 ∷ one32 ∷ two32 ∷ half32 ∷ []

abbrev sixteen_zeros : List Float
sixteen_zeros =
    zero32 ∷ zero32 ∷ zero32 ∷ zero32 ∷ zero32 ∷ zero32 ∷ zero32 ∷ zero32 ∷ zero32 ∷ zero32 ∷ zero32 ∷ zero32 ∷ zero32 ∷ zero32 ∷ zero32 ∷ zero32 ∷ []

pub sixteen_accepted : coefficient_blur_refusal (axes_of 1 1 1) sixteen_numbers sixteen_zeros ≡ 0
unfolding coefficient_blur_refusal first_of bad_axes wrong_blur_lists bad_coefficients some within of_bits of_fields odd neg le lt eq
sixteen_accepted = refl

pub sixteen_blurred : coefficient_blur_of sixteen_numbers 1 1 1 ≡ sixteen_numbers
unfolding mean_of mean_at mean_in around along fold tab of_bits of_fields add div mul of_int round sum units odd size climb span
sixteen_blurred = refl
