-- The occupied and the active mask. A call tests 1, 2, 3, 4 and 5, in that order. Accepted, it fills both lists with the words of the masks, whatever
-- stood there, and answers how many voxels of each are marked. Assumes nothing.
use Rattle.std.specs.Prelude.{◌≡◌, Bool, ◌||◌, List, [], ◌∷◌, ℕ, ◌/◌, ◌%◌, length, Result, Ok, Err, Float}
use Rattle.names.specs.declared.refusal.Refusal.{Refusal}
use Rattle.names.specs.Answers.{number_of}
use Rattle.names.specs.Refusals.{Row, row, first_of, unless_refused}
use Rattle.grid.specs.declared.Axes.{Axes}
use Rattle.grid.specs.declared.Corners.{Corners}
use Rattle.grid.specs.Grid.{voxels}
use Rattle.limits.specs.Limits.{bad_axes, bad_grid, wrong_length, too_many, bad_points}
use Rattle.marks.specs.Marks.{marked_count}
use Rattle.words.specs.Words.{word_count, words_of}
use Rattle.occupy.specs.Occupied.{occupied_of}
use Rattle.dilate.specs.Active.{active_of}
use Rattle.masks.specs.declared.MaskCounts.{MaskCounts}
use Rattle.masks.specs.declared.Marked.{Marked}

-- the points are no multiple of nine, or a mask has not exactly as many words as its voxels take
unfoldable pub wrong_masks : Axes → List Float → List ℕ → List ℕ → Bool
wrong_masks axes points occupied active =
    wrong_length (length points % 9) 0 || wrong_length (length occupied) (word_count (voxels axes)) || wrong_length (length active) (word_count (voxels axes))

-- nine numbers a triangle; a call without materials has none too many
abbrev pub masks_rows : Axes → Corners → List Float → List ℕ → List ℕ → List Row
masks_rows axes corners points occupied active =
    row 1 (bad_axes axes)
    ∷ row 2 (bad_grid corners axes)
    ∷ row 3 (wrong_masks axes points occupied active)
    ∷ row 4 (too_many (length points / 9) 0)
    ∷ row 5 (bad_points points)
    ∷ []

unfoldable pub masks_refusal : Axes → Corners → List Float → List ℕ → List ℕ → ℕ
masks_refusal axes corners points occupied active = first_of (masks_rows axes corners points occupied active)

-- the active mask of a scene, an entry a voxel
abbrev pub active_mask_of : Axes → Corners → List Float → List ℕ
active_mask_of axes corners points = active_of axes (occupied_of axes corners points)

-- a call that answers the refusal r
abbrev pub marked_of : ℕ → Axes → Corners → List Float → Marked
marked_of r axes corners points =
    record {
      refusal = r;
      occupied = unless_refused r (marked_count (occupied_of axes corners points)) 0;
      active = unless_refused r (marked_count (active_mask_of axes corners points)) 0;
    }

-- a call's answer as C is told it
abbrev pub marked_from : Result MaskCounts Refusal → Marked
marked_from (Ok counts) = record { refusal = 0; occupied = counts.occupied; active = counts.active }
marked_from (Err r) = record { refusal = number_of r; occupied = 0; active = 0 }

pub record MasksFilled (axes : Axes) (corners : Corners) (points : List Float) (occupied active : List ℕ) (r : Marked) (occupied' active' : List ℕ) : Type 0 where
  pub answer : r ≡ marked_of (masks_refusal axes corners points occupied active) axes corners points
  pub occupied_after : occupied' ≡ unless_refused (masks_refusal axes corners points occupied active) (words_of (occupied_of axes corners points)) occupied
  pub active_after : active' ≡ unless_refused (masks_refusal axes corners points occupied active) (words_of (active_mask_of axes corners points)) active
