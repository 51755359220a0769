-- The public lookups: what each answers, and what it refuses. Tested are 1, 2, 3, 11 and then 13, of the eight cells read and no
-- others; for one voxel's part 1, 3 and 11. On a refusal every number of the answer is zero, and a part is empty. Assumes nothing.
use Rattle.std.specs.Prelude.{◌≡◌, ℕ, ◌+◌, ◌*◌, ◌<◌, ◌≤◌, Bool, false, cond, ◌||◌, List, [], ◌∷◌, length, get_or, replicate, slice_index_or, Result, Ok, Err, IfOk, Float}
use Rattle.std.proofs.Common.{sym, ◌∙◌}
use Rattle.std.specs.Borrow.{Bor}
use Rattle.std.specs.Float.{nan}
use Rattle.names.specs.Bits.{zero32}
use Rattle.names.specs.Numbers.{light_limit}
use Rattle.names.specs.declared.refusal.Refusal.{Refusal}
use Rattle.names.specs.Answers.{number_of, answer_number}
use Rattle.names.specs.Refusals.{Row, row, first_of, unless_refused}
use Rattle.lists.specs.Fold.{tab}
use Rattle.lists.specs.Some.{some}
use Rattle.lists.specs.Laid.{voxel_part}
use Rattle.vectors.specs.declared.Vec3.{Vec3}
use Rattle.grid.specs.declared.Axes.{Axes}
use Rattle.grid.specs.declared.Corners.{Corners}
use Rattle.grid.specs.Grid.{voxels}
use Rattle.limits.specs.Limits.{outside, bad_axes, bad_grid, wrong_length, bad_position, past_grid, bad_coefficients}
use Rattle.lookup.specs.declared.LightAt.{LightAt}
use Rattle.lookup.specs.declared.CoefficientsAt.{CoefficientsAt}
use Rattle.lookup.specs.declared.Cells.{Cells}
use Rattle.lookup.specs.Place.{cells_of, cells_read, blended_of}

-- ---- light at a position

-- a light among the cells read is not finite or beyond ±2^64
unfoldable pub bad_light_cells : List Float → Cells → Bool
bad_light_cells light c = some (λ (i : ℕ). outside light_limit (slice_index_or light i nan)) (cells_read c)

abbrev pub light_rows : Axes → Corners → List Float → Vec3 → List Row
light_rows a c light p =
    row 1 (bad_axes a)
    ∷ row 2 (bad_grid c a)
    ∷ row 3 (wrong_length (length light) (voxels a))
    ∷ row 11 (bad_position p)
    ∷ row 13 (bad_light_cells light (cells_of a c p))
    ∷ []

abbrev pub light_refusal : Axes → Corners → List Float → Vec3 → ℕ
light_refusal a c light p = first_of (light_rows a c light p)

-- what stands between the eight lights
abbrev pub light_blend : List Float → Cells → Float
light_blend light c = blended_of c (λ (i : ℕ). get_or light i nan)

unfoldable pub light_at_of : Axes → Corners → List Float → Vec3 → LightAt
light_at_of a c light p =
    record {
      refusal = light_refusal a c light p;
      light = unless_refused (light_refusal a c light p) (light_blend light (cells_of a c p)) zero32;
    }

-- a call's answer as C is told it
abbrev pub light_from : Result Float Refusal → LightAt
light_from (Ok x) = record { refusal = 0; light = x }
light_from (Err r) = record { refusal = number_of r; light = zero32 }

-- ---- the four coefficients at a position, sixteen numbers

-- one of the sixteen numbers of a cell read is not finite or beyond ±2^96
unfoldable pub bad_volume_cells : List Float → Cells → Bool
bad_volume_cells volume c = some (λ (i : ℕ). bad_coefficients (voxel_part 16 i volume)) (cells_read c)

abbrev pub coefficient_rows : Axes → Corners → List Float → Vec3 → List Row
coefficient_rows a c volume p =
    row 1 (bad_axes a)
    ∷ row 2 (bad_grid c a)
    ∷ row 3 (wrong_length (length volume) (voxels a * 16))
    ∷ row 11 (bad_position p)
    ∷ row 13 (bad_volume_cells volume (cells_of a c p))
    ∷ []

abbrev pub coefficient_refusal : Axes → Corners → List Float → Vec3 → ℕ
coefficient_refusal a c volume p = first_of (coefficient_rows a c volume p)

-- what stands between the eight numbers at place k of sixteen
abbrev pub number_blend : List Float → Cells → ℕ → Float
number_blend volume c k = blended_of c (λ (i : ℕ). get_or volume (i * 16 + k) nan)

unfoldable pub coefficient_blend : List Float → Cells → List Float
coefficient_blend volume c = tab (number_blend volume c) 16 0

abbrev pub no_numbers : List Float
no_numbers = replicate 16 zero32

unfoldable pub coefficients_at_of : Axes → Corners → List Float → Vec3 → CoefficientsAt
coefficients_at_of a c volume p =
    record {
      refusal = coefficient_refusal a c volume p;
      numbers = unless_refused (coefficient_refusal a c volume p) (coefficient_blend volume (cells_of a c p)) no_numbers;
    }

abbrev pub coefficients_from : Result (List Float) Refusal → CoefficientsAt
coefficients_from (Ok numbers) = record { refusal = 0; numbers = numbers }
coefficients_from (Err r) = record { refusal = number_of r; numbers = no_numbers }

-- ---- one voxel's part, of the volume or, where `unblurred` is true, of scratch

abbrev pub part_rows : Axes → List Float → List Float → ℕ → Bool → List Row
part_rows a volume scratch index unblurred =
    row 1 (bad_axes a)
    ∷ row 3 (wrong_length (length volume) (voxels a * 16) || wrong_length (length scratch) (voxels a * 16))
    ∷ row 11 (past_grid index (voxels a))
    ∷ []

abbrev pub part_refusal : Axes → List Float → List Float → ℕ → Bool → ℕ
part_refusal a volume scratch index unblurred = first_of (part_rows a volume scratch index unblurred)

unfoldable pub part_of : Axes → List Float → List Float → ℕ → Bool → List Float
part_of a volume scratch index unblurred =
    unless_refused (part_refusal a volume scratch index unblurred) (voxel_part 16 index (cond unblurred scratch volume)) []

-- the part that a call's answer lends; empty on a refusal
abbrev pub part_from : Result (Bor (List Float)) Refusal → List Float
part_from (Ok part) = part.now
part_from (Err r) = []

-- ---- both lookups: in a list of `each` numbers a cell, where `bad` says whether cell i's are refused

abbrev pub looked_rows : ℕ → (List Float → ℕ → Bool) → Axes → Corners → List Float → Vec3 → List Row
looked_rows each bad a c list p =
    row 1 (bad_axes a)
    ∷ row 2 (bad_grid c a)
    ∷ row 3 (wrong_length (length list) (voxels a * each))
    ∷ row 11 (bad_position p)
    ∷ row 13 (some (bad list) (cells_read (cells_of a c p)))
    ∷ []

-- what each of the two has to be
pub record LookedLaws (each : ℕ) (bad : List Float → ℕ → Bool) (refusal : Axes → Corners → List Float → Vec3 → ℕ) : Type 0 where
  pub some_numbers : 0 < each
  pub few_numbers : each ≤ 16
  pub rows : (a : Axes) (c : Corners) (list : List Float) (p : Vec3) → refusal a c list p ≡ first_of (looked_rows each bad a c list p)

-- rows 1, 2 and 3 have passed
pub record GridGood (each : ℕ) (a : Axes) (c : Corners) (list : List Float) : Type 0 where
  pub axes : bad_axes a ≡ false
  pub grid : bad_grid c a ≡ false
  pub fits : wrong_length (length list) (voxels a * each) ≡ false

-- a refusal's number, or what was found
pub record LookedUp {A : Type 0} (number : ℕ) (found : A) (answer : Result A Refusal) : Type 0 where
  pub number_is : answer_number answer ≡ number
  pub there : IfOk answer (λ x. x ≡ found)

-- ---- the contracts

pub record LightLookedUp (a : Axes) (c : Corners) (light : List Float) (p : Vec3) (r : LightAt) : Type 0 where
  pub answer : r ≡ light_at_of a c light p

pub record CoefficientsLookedUp (a : Axes) (c : Corners) (volume : List Float) (p : Vec3) (r : CoefficientsAt) : Type 0 where
  pub answer : r ≡ coefficients_at_of a c volume p

pub record PartLent (a : Axes) (volume scratch : List Float) (index : ℕ) (unblurred : Bool) (r : List Float) : Type 0 where
  pub part : r ≡ part_of a volume scratch index unblurred

pub record PartJudged (a : Axes) (volume scratch : List Float) (index : ℕ) (unblurred : Bool) (r : ℕ) : Type 0 where
  pub answer : r ≡ part_refusal a volume scratch index unblurred

-- two results that satisfy one are equal

pub one_light : {a : Axes} {c : Corners} {light : List Float} {p : Vec3} {r s : LightAt} → LightLookedUp a c light p r → LightLookedUp a c light p s → r ≡ s
one_light h k = h.answer ∙ sym k.answer

pub one_coefficients : {a : Axes} {c : Corners} {volume : List Float} {p : Vec3} {r s : CoefficientsAt} → CoefficientsLookedUp a c volume p r → CoefficientsLookedUp a c volume p s → r ≡ s
one_coefficients h k = h.answer ∙ sym k.answer

pub one_part : {a : Axes} {volume scratch : List Float} {index : ℕ} {unblurred : Bool} {r s : List Float} → PartLent a volume scratch index unblurred r → PartLent a volume scratch index unblurred s → r ≡ s
one_part h k = h.part ∙ sym k.part

pub one_judgement : {a : Axes} {volume scratch : List Float} {index : ℕ} {unblurred : Bool} {r s : ℕ} → PartJudged a volume scratch index unblurred r → PartJudged a volume scratch index unblurred s → r ≡ s
one_judgement h k = h.answer ∙ sym k.answer
