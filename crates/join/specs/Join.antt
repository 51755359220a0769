-- The join of a share of a bake onto others: the voxels' numbers are taken from the share that has them. The sixteen numbers of each voxel of the share's
-- mask come from the share's unblurred volume, the others stay. A call tests 1, 3 and 13, in that order. What `joined` holds is never tested: the blur that
-- follows tests it whole. Assumes nothing.
use Rattle.std.specs.Prelude.{◌≡◌, Bool, ◌||◌, List, [], ◌∷◌, ℕ, ◌*◌, length, Float}
use Rattle.names.specs.Refusals.{Row, row, first_of, unless_refused}
use Rattle.grid.specs.declared.Axes.{Axes}
use Rattle.grid.specs.Grid.{voxels}
use Rattle.limits.specs.Limits.{bad_axes, wrong_length, bad_coefficients}
use Rattle.marks.specs.Marks.{is_marked}
use Rattle.words.specs.Words.{word_count, entries_of, unused_set}
use Rattle.shares.specs.Shares.{joined_by}

-- the mask has not exactly as many words as n voxels take, or a volume not sixteen numbers for each of them
unfoldable pub wrong_join_lists : ℕ → List ℕ → List Float → List Float → Bool
wrong_join_lists n share unblurred joined =
    wrong_length (length share) (word_count n) || wrong_length (length unblurred) (n * 16) || wrong_length (length joined) (n * 16)

-- an unused bit of the mask set; a coefficient not finite or beyond ±2^96
unfoldable pub bad_share : ℕ → List ℕ → List Float → Bool
bad_share n share unblurred = unused_set share n || bad_coefficients unblurred

abbrev pub join_rows : Axes → List ℕ → List Float → List Float → List Row
join_rows axes share unblurred joined =
    row 1 (bad_axes axes)
    ∷ row 3 (wrong_join_lists (voxels axes) share unblurred joined)
    ∷ row 13 (bad_share (voxels axes) share unblurred)
    ∷ []

unfoldable pub join_refusal : Axes → List ℕ → List Float → List Float → ℕ
join_refusal axes share unblurred joined = first_of (join_rows axes share unblurred joined)

-- the voxels of the mask from `unblurred`, the others as they were
abbrev pub joined_of : Axes → List ℕ → List Float → List Float → List Float
joined_of axes share unblurred joined = joined_by 16 (voxels axes) (is_marked (entries_of share (voxels axes))) unblurred joined

pub record Joined (axes : Axes) (share : List ℕ) (unblurred joined : List Float) (r : ℕ) (joined' : List Float) : Type 0 where
  pub answer : r ≡ join_refusal axes share unblurred joined
  pub joined_after : joined' ≡ unless_refused r (joined_of axes share unblurred joined) joined
