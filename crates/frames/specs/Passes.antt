-- What the passes of a frame are handed and what they leave, of lights and of coefficients alike: `each` numbers a cell and a position, `bad` whether 13 refuses a
-- cell, `refusal` what the single lookup refuses, and `frame` all that is written.
use Rattle.std.specs.Prelude.{◌≡◌, Bool, false, List, ℕ, ◌/◌, ◌<◌, length, Float}
use Rattle.names.specs.Refusals.{unless_refused}
use Rattle.lists.specs.Laid.{laid}
use Rattle.vectors.specs.declared.Vec3.{Vec3}
use Rattle.grid.specs.declared.Axes.{Axes}
use Rattle.grid.specs.declared.Corners.{Corners}
use Rattle.lookup.specs.declared.Cells.{Cells}
use Rattle.lookup.specs.Place.{cells_of}
use Rattle.frames.specs.declared.FirstRefusal.{FirstRefusal}
use Rattle.frames.specs.Frames.{position_count, position_at, least_refused, first_refusal_of, frame_rows}

-- no cell of the list is refused
abbrev pub NoneBad : ℕ → (List Float → ℕ → Bool) → List Float → Type 0
NoneBad each bad list = (i : ℕ) → i < length list / each → bad list i ≡ false

module _ (refusal : Axes → Corners → List Float → Vec3 → ℕ) (a : Axes) (c : Corners) (list positions : List Float) where
  -- the first position that the single lookup refuses
  abbrev pub first_position : FirstRefusal
  first_position = least_refused (λ (k : ℕ). refusal a c list (position_at positions k)) (position_count (length positions)) 0

  -- none is refused
  abbrev pub EachAccepted : Type 0
  EachAccepted = (k : ℕ) → k < position_count (length positions) → refusal a c list (position_at positions k) ≡ 0

-- the first refusal of a frame, with so many numbers of answers
abbrev pub frame_refusal : ℕ → (Axes → Corners → List Float → Vec3 → ℕ) → Axes → Corners → List Float → List Float → ℕ → FirstRefusal
frame_refusal each refusal a c list positions answers =
    first_refusal_of (frame_rows each a c (length list) (length positions) answers) (λ (k : ℕ). refusal a c list (position_at positions k)) (position_count (length positions))

-- what a frame leaves
pub record FrameAnswered (each : ℕ) (refusal : Axes → Corners → List Float → Vec3 → ℕ) (frame : Axes → Corners → List Float → List Float → List Float) (a : Axes) (c : Corners) (list positions answers : List Float) (r : FirstRefusal) (answers' : List Float) : Type 0 where
  pub answer : r ≡ frame_refusal each refusal a c list positions (length answers)
  pub answers_after : answers' ≡ unless_refused r.refusal (frame a c list positions) answers

-- the first position refused; where there is none, the room has what is found at each
pub record PositionsKept (refusal : Axes → Corners → List Float → Vec3 → ℕ) (frame : Axes → Corners → List Float → List Float → List Float) (a : Axes) (c : Corners) (list positions : List Float) (r : FirstRefusal) (room : List Float) : Type 0 where
  pub first : r ≡ first_position refusal a c list positions
  pub kept : r.refusal ≡ 0 → room ≡ frame a c list positions

-- where no position is refused, a frame is what stands between the cells of each position, one after another
pub record FramedLaws {A : Type 0} (blend : List Float → Cells → A) (refusal : Axes → Corners → List Float → Vec3 → ℕ) (numbers : A → List Float) (frame : Axes → Corners → List Float → List Float → List Float) : Type 0 where
  pub frame_is : (a : Axes) (c : Corners) (list positions : List Float) → EachAccepted refusal a c list positions
      → frame a c list positions ≡ laid (λ (k : ℕ). numbers (blend list (cells_of a c (position_at positions k)))) (position_count (length positions)) 0
