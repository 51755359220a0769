-- A camera frame of positions, three numbers each: the light, or the four coefficients, at each of them, "equal one by one to the single lookup".
-- Rows 1, 2 and 3 concern no position: they are tested once, whatever the positions, and come with place 0. Then "the first such refusal is given with
-- its place": the least place at which the single lookup refuses, and its number. On a refusal "nothing is written". Assumes nothing.
use Rattle.std.specs.Prelude.{◌≡◌, Bool, cond, ◌||◌, List, [], ◌∷◌, ℕ, zero, suc, ◌+◌, ◌*◌, ◌/◌, ◌%◌, eqb, length, Result, Ok, Err, Float}
use Rattle.names.specs.declared.refusal.Refusal.{Refusal}
use Rattle.names.specs.Answers.{number_of}
use Rattle.names.specs.Refusals.{Row, row, first_of, unless_refused}
use Rattle.lists.specs.Fold.{tab}
use Rattle.lists.specs.Laid.{laid}
use Rattle.vectors.specs.declared.Vec3.{Vec3}
use Rattle.vectors.specs.Places.{vec_at}
use Rattle.grid.specs.declared.Axes.{Axes}
use Rattle.grid.specs.declared.Corners.{Corners}
use Rattle.grid.specs.Grid.{voxels}
use Rattle.limits.specs.Limits.{bad_axes, bad_grid, wrong_length, wrong_share}
use Rattle.lookup.specs.Lookup.{light_refusal, light_at_of, coefficient_refusal, coefficients_at_of}
use Rattle.frames.specs.declared.FirstRefused.{FirstRefused}
use Rattle.frames.specs.declared.FirstRefusal.{FirstRefusal}

-- ---- the positions

abbrev pub position_count : ℕ → ℕ
position_count len = len / 3

-- the position at place k
abbrev pub position_at : List Float → ℕ → Vec3
position_at positions k = vec_at positions (k * 3)

-- the positions are no multiple of three, or there are not exactly `each` numbers of the answer for every position
unfoldable pub wrong_frame : ℕ → ℕ → ℕ → Bool
wrong_frame each positions answers = wrong_length (positions % 3) 0 || wrong_share each answers (position_count positions)

-- ---- the first refusal

abbrev pub refused_at : ℕ → ℕ → FirstRefusal
refused_at number k = record { refusal = number; place = k }

-- a refusal that no position causes
abbrev pub refused_first : Refusal → FirstRefused
refused_first r = record { refusal = r; place = 0 }

-- a call's answer as C is told it
abbrev pub first_refusal_from : {A : Type 0} → Result A FirstRefused → FirstRefusal
first_refusal_from (Ok _) = refused_at 0 0
first_refusal_from (Err f) = refused_at (number_of f.refusal) f.place

-- the least of k places from i on whose number is not 0, with that number; two zeros where there is none
unfoldable pub least_refused : (ℕ → ℕ) → ℕ → ℕ → FirstRefusal
least_refused number zero i = refused_at 0 0
least_refused number (suc k) i = cond (eqb (number i) 0) (least_refused number k (i + 1)) (refused_at (number i) i)

-- rows that concern no position, and then the positions in their order
abbrev pub first_refusal_of : List Row → (ℕ → ℕ) → ℕ → FirstRefusal
first_refusal_of rows number count = unless_refused (first_of rows) (least_refused number count 0) (refused_at (first_of rows) 0)

-- those rows, from the lengths of the list that is looked up in, of the positions and of the answers: `each` numbers a voxel, and a position
abbrev pub frame_rows : ℕ → Axes → Corners → ℕ → ℕ → ℕ → List Row
frame_rows each a c list positions answers =
    row 1 (bad_axes a) ∷ row 2 (bad_grid c a) ∷ row 3 (wrong_length list (voxels a * each) || wrong_frame each positions answers) ∷ []

-- ---- light

-- what the single lookup refuses at place k
abbrev pub light_refusal_at : Axes → Corners → List Float → List Float → ℕ → ℕ
light_refusal_at a c light positions k = light_refusal a c light (position_at positions k)

unfoldable pub light_frame_refusal : Axes → Corners → List Float → List Float → ℕ → FirstRefusal
light_frame_refusal a c light positions answers =
    first_refusal_of (frame_rows 1 a c (length light) (length positions) answers) (light_refusal_at a c light positions) (position_count (length positions))

-- the single lookup's light at each position
unfoldable pub light_frame_of : Axes → Corners → List Float → List Float → List Float
light_frame_of a c light positions = tab (λ (k : ℕ). (light_at_of a c light (position_at positions k)).light) (position_count (length positions)) 0

-- ---- the four coefficients, sixteen numbers a position

abbrev pub coefficient_refusal_at : Axes → Corners → List Float → List Float → ℕ → ℕ
coefficient_refusal_at a c volume positions k = coefficient_refusal a c volume (position_at positions k)

unfoldable pub coefficient_frame_refusal : Axes → Corners → List Float → List Float → ℕ → FirstRefusal
coefficient_frame_refusal a c volume positions answers =
    first_refusal_of (frame_rows 16 a c (length volume) (length positions) answers) (coefficient_refusal_at a c volume positions) (position_count (length positions))

-- the single lookup's sixteen numbers at each position, one after another
unfoldable pub coefficient_frame_of : Axes → Corners → List Float → List Float → List Float
coefficient_frame_of a c volume positions = laid (λ (k : ℕ). (coefficients_at_of a c volume (position_at positions k)).numbers) (position_count (length positions)) 0

-- ---- the contracts

pub record LightsFramed (a : Axes) (c : Corners) (light positions answers : List Float) (r : FirstRefusal) (answers' : List Float) : Type 0 where
  pub answer : r ≡ light_frame_refusal a c light positions (length answers)
  pub answers_after : answers' ≡ unless_refused r.refusal (light_frame_of a c light positions) answers

pub record CoefficientsFramed (a : Axes) (c : Corners) (volume positions answers : List Float) (r : FirstRefusal) (answers' : List Float) : Type 0 where
  pub answer : r ≡ coefficient_frame_refusal a c volume positions (length answers)
  pub answers_after : answers' ≡ unless_refused r.refusal (coefficient_frame_of a c volume positions) answers
