-- The public calls over a volume file. Each has a list of rows in its own order, an answer that is the first row's number with zeros
-- beside it or 0 with what was asked, and each lent list afterwards. The definitions take the four lists in the order of the file's kinds: light,
-- coefficients, active, occupied; the calls take the masks as every call does, occupied first. A mask is lent as words, and the file has its entries, a
-- byte each. Assumes nothing.
use Rattle.std.specs.Prelude.{◌≡◌, Bool, cond, ◌||◌, List, [], ◌∷◌, ℕ, ◌+◌, ◌*◌, ltb, length, Float, Result, Ok, Err}
use Rattle.std.specs.Float.Ieee as Ieee
use Rattle.names.specs.Bits.{zero32}
use Rattle.names.specs.Numbers.{figures_limit}
use Rattle.names.specs.declared.refusal.Refusal.{Refusal}
use Rattle.names.specs.Answers.{number_of}
use Rattle.names.specs.Refusals.{Row, row, first_of, unless_refused}
use Rattle.vectors.specs.declared.Vec3.{Vec3}
use Rattle.vectors.specs.Vectors.{vec}
use Rattle.grid.specs.declared.Axes.{Axes}
use Rattle.grid.specs.declared.Corners.{Corners}
use Rattle.grid.specs.Grid.{voxels}
use Rattle.limits.specs.Limits.{bad_axes, bad_grid, wrong_length, bad_lights, bad_coefficients}
use Rattle.marks.specs.Marks.{marked_count}
use Rattle.words.specs.Words.{word_count, entries_of, words_of, unused_set}
use Rattle.contents.specs.Contents.{axes_at}
use Rattle.volume_file.specs.VolumeFile.{voxels_at, light_at, volume_at, active_at, occupied_at, corners_at, faulty}
use Rattle.volume_write.specs.FileBytes.{bytes_for, file_bytes}
use Rattle.volume.specs.declared.FileGrid.{FileGrid}
use Rattle.volume.specs.declared.Counts.{Counts}
use Rattle.volume.specs.declared.Head.{Head}
use Rattle.volume.specs.declared.Needed.{Needed}
use Rattle.volume.specs.declared.Figures.{Figures}

-- ---- a file's axes and corners: 12

abbrev no_vector : Vec3
no_vector = vec zero32 zero32 zero32

unfoldable pub no_head : ℕ → Head
no_head refusal =
    record {
      refusal = refusal;
      axes = record { width = 0; height = 0; depth = 0 };
      corners = record { min = no_vector; max = no_vector };
    }

-- an answer as C is told it
abbrev pub head_told : Result FileGrid Refusal → Head
head_told (Ok g) = record { refusal = 0; axes = g.axes; corners = g.corners }
head_told (Err r) = no_head (number_of r)

unfoldable pub head_answer : List ℕ → Head
head_answer s = record { refusal = 0; axes = axes_at s; corners = corners_at s }

abbrev pub file_rows : List ℕ → List Row
file_rows s = row 12 (faulty s) ∷ []

unfoldable pub file_refusal : List ℕ → ℕ
file_refusal s = first_of (file_rows s)

pub record FileAxes (s : List ℕ) (r : Head) : Type 0 where
  pub answer : r ≡ unless_refused (file_refusal s) (head_answer s) (no_head (file_refusal s))

-- ---- how many bytes the writer needs: 1

abbrev pub needed_rows : Axes → List Row
needed_rows a = row 1 (bad_axes a) ∷ []

unfoldable pub needed_refusal : Axes → ℕ
needed_refusal a = first_of (needed_rows a)

-- an answer as C is told it
abbrev pub needed_told : Result ℕ Refusal → Needed
needed_told (Ok n) = record { refusal = 0; bytes = n }
needed_told (Err r) = record { refusal = number_of r; bytes = 0 }

pub record VolumeBytes (a : Axes) (r : Needed) : Type 0 where
  pub answer : r ≡ unless_refused (needed_refusal a) (record { refusal = 0; bytes = bytes_for (voxels a) }) (record { refusal = needed_refusal a; bytes = 0 })

-- ---- the reader: 12, then 3, since the file's axes give the lengths

-- light, coefficients and the words of the two masks of a grid of n voxels
unfoldable pub wrong_volume_lists : ℕ → ℕ → ℕ → ℕ → ℕ → Bool
wrong_volume_lists n light volume active occupied =
    wrong_length light n || wrong_length volume (n * 16) || wrong_length active (word_count n) || wrong_length occupied (word_count n)

abbrev pub read_rows : List ℕ → List Float → List Float → List ℕ → List ℕ → List Row
read_rows s l v m o = row 12 (faulty s) ∷ row 3 (wrong_volume_lists (voxels_at s) (length l) (length v) (length m) (length o)) ∷ []

unfoldable pub read_refusal : List ℕ → List Float → List Float → List ℕ → List ℕ → ℕ
read_refusal s l v m o = first_of (read_rows s l v m o)

-- the four lists before, the answer, and the four lists after
pub record VolumeRead (s : List ℕ) (l v : List Float) (m o : List ℕ) (r : Head) (l' v' : List Float) (m' o' : List ℕ) : Type 0 where
  pub answer : r ≡ unless_refused (read_refusal s l v m o) (head_answer s) (no_head (read_refusal s l v m o))
  pub light : l' ≡ unless_refused (read_refusal s l v m o) (light_at s) l
  pub volume : v' ≡ unless_refused (read_refusal s l v m o) (volume_at s) v
  pub active : m' ≡ unless_refused (read_refusal s l v m o) (words_of (active_at s)) m
  pub occupied : o' ≡ unless_refused (read_refusal s l v m o) (words_of (occupied_at s)) o

-- ---- the writer: 1, 2, 3, 13

unfoldable pub wrong_bytes : ℕ → ℕ → Bool
wrong_bytes n bytes = wrong_length bytes (bytes_for n)

unfoldable pub bad_lists : ℕ → List Float → List Float → List ℕ → List ℕ → Bool
bad_lists n l v m o = bad_lights l || bad_coefficients v || unused_set m n || unused_set o n

abbrev pub write_rows : Axes → Corners → List Float → List Float → List ℕ → List ℕ → List ℕ → List Row
write_rows a c l v m o b =
    row 1 (bad_axes a)
    ∷ row 2 (bad_grid c a)
    ∷ row 3 (wrong_volume_lists (voxels a) (length l) (length v) (length m) (length o) || wrong_bytes (voxels a) (length b))
    ∷ row 13 (bad_lists (voxels a) l v m o)
    ∷ []

unfoldable pub write_refusal : Axes → Corners → List Float → List Float → List ℕ → List ℕ → List ℕ → ℕ
write_refusal a c l v m o b = first_of (write_rows a c l v m o b)

pub record VolumeWritten (a : Axes) (c : Corners) (l v : List Float) (m o b : List ℕ) (r : ℕ) (b' : List ℕ) : Type 0 where
  pub answer : r ≡ write_refusal a c l v m o b
  pub bytes : b' ≡ unless_refused (write_refusal a c l v m o b) (file_bytes a c l v (entries_of m (voxels a)) (entries_of o (voxels a))) b

-- ---- the figures: 14, then 12

-- "light equal to zero": −0 too
abbrev pub is_zero : Float → Bool
is_zero x = Ieee.eq x zero32

unfoldable pub zero_count : List Float → ℕ
zero_count [] = 0
zero_count (x ∷ l) = cond (is_zero x) 1 0 + zero_count l

unfoldable pub no_figures : ℕ → Figures
no_figures refusal =
    record { refusal = refusal; width = 0; height = 0; depth = 0; occupied = 0; active = 0; zeros = 0 }

-- an answer as C is told it
abbrev pub figures_told : Result Counts Refusal → Figures
figures_told (Ok c) =
    record {
      refusal = 0;
      width = c.axes.width;
      height = c.axes.height;
      depth = c.axes.depth;
      occupied = c.occupied;
      active = c.active;
      zeros = c.zeros;
    }
figures_told (Err r) = no_figures (number_of r)

unfoldable pub figures_answer : List ℕ → Figures
figures_answer s =
    record {
      refusal = 0;
      width = (axes_at s).width;
      height = (axes_at s).height;
      depth = (axes_at s).depth;
      occupied = marked_count (occupied_at s);
      active = marked_count (active_at s);
      zeros = zero_count (light_at s);
    }

abbrev pub figures_rows : List ℕ → List Row
figures_rows s = row 14 (ltb figures_limit (length s)) ∷ row 12 (faulty s) ∷ []

unfoldable pub figures_refusal : List ℕ → ℕ
figures_refusal s = first_of (figures_rows s)

pub record FileFigures (s : List ℕ) (r : Figures) : Type 0 where
  pub answer : r ≡ unless_refused (figures_refusal s) (figures_answer s) (no_figures (figures_refusal s))
