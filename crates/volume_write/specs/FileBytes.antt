-- "The writer writes kinds 1..5": the head, five entries, and the bodies in that order. A file of n voxels is 96 + 70·n bytes long; its
-- bodies stand at 72, 72 + 4·n, 72 + 68·n, 72 + 69·n and 72 + 70·n. Assumes nothing.
use Rattle.std.specs.Prelude.{◌≡◌, List, [], ◌∷◌, ◌++◌, ℕ, ◌+◌, ◌*◌, Float}
use Rattle.grid.specs.declared.Axes.{Axes}
use Rattle.grid.specs.declared.Corners.{Corners}
use Rattle.grid.specs.Grid.{voxels, AxesWithin}
use Rattle.words.specs.Words.{word_count}
use Rattle.bytes_le.specs.Bytes.{encode}
use Rattle.contents.specs.Contents.{head_of, entry_of}

-- how many bytes a file of n voxels has
abbrev pub bytes_for : ℕ → ℕ
bytes_for n = 96 + n * 70

-- kind, offset and length of each body
unfoldable pub contents_of : ℕ → List ℕ
contents_of n =
    entry_of 1 72 (n * 4)
    ++ entry_of 2 (72 + n * 4) (n * 64)
    ++ entry_of 3 (72 + n * 68) n
    ++ entry_of 4 (72 + n * 69) n
    ++ entry_of 5 (72 + n * 70) 24

-- min x y z, max x y z
abbrev pub corners_list : Corners → List Float
corners_list c = c.min.x ∷ c.min.y ∷ c.min.z ∷ c.max.x ∷ c.max.y ∷ c.max.z ∷ []

unfoldable pub file_bytes : Axes → Corners → List Float → List Float → List ℕ → List ℕ → List ℕ
file_bytes axes corners light volume active occupied =
    head_of axes ++ contents_of (voxels axes) ++ encode light ++ encode volume ++ active ++ occupied ++ encode (corners_list corners)

-- axes within the limits, and lists of the lengths that they ask for, the masks in words
pub record Lent (a : Axes) (n l v m o b : ℕ) : Type 0 where
  pub axes : AxesWithin a
  pub count : n ≡ voxels a
  pub light : l ≡ n
  pub volume : v ≡ n * 16
  pub active : m ≡ word_count n
  pub occupied : o ≡ word_count n
  pub bytes : b ≡ bytes_for n
