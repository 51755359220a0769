-- A reader whose axes end at any limit, of whom document 02's C-21 speaks: to an axis above its limit it answers 12 (the figures 14, where a file is too
-- long for them), and every lent list keeps what it held; of every other file it says what a reader of a higher limit says. At `axis_limit` its contracts
-- are those of these calls.
use Rattle.std.specs.Prelude.{◌≡◌, refl, Bool, true, false, not, ◌||◌, List, [], ◌∷◌, ◌↔◌, ℕ, ◌≤◌, ltb, length, Float}
use Rattle.std.proofs.Common.{ap, ◌∙◌, le-ltb}
use Rattle.names.specs.Numbers.{axis_limit, figures_limit}
use Rattle.names.specs.Refusals.{row, first_of, unless_refused}
use Rattle.limits.specs.Limits.{bad_axes_under, bad_axes}
use Rattle.limits.specs.LimitsLaws.{Above, above_limit, NoneAbove, raised_limit}
use Rattle.contents.specs.Contents.{headed, axes_at}
use Rattle.volume_file.specs.VolumeFile.{voxels_at, light_at, volume_at, active_at, occupied_at, faulty_where, faulty}
use Rattle.words.specs.Words.{words_of}
use Rattle.volume.specs.declared.Head.{Head}
use Rattle.volume.specs.declared.Figures.{Figures}
use Rattle.volume.specs.Volume.{no_head, head_answer, file_refusal, FileAxes, wrong_volume_lists, read_refusal, VolumeRead, no_figures, figures_answer, figures_refusal, FileFigures}

-- ---- the three calls that read a file, under any limit

-- 12: any fault in a volume file, an axis outside 1..most among them
abbrev pub faulty_under : ℕ → List ℕ → Bool
faulty_under most s = faulty_where (bad_axes_under most (axes_at s)) s

abbrev pub file_refusal_under : ℕ → List ℕ → ℕ
file_refusal_under most s = first_of (row 12 (faulty_under most s) ∷ [])

abbrev pub read_refusal_under : ℕ → List ℕ → List Float → List Float → List ℕ → List ℕ → ℕ
read_refusal_under most s l v m o =
    first_of (row 12 (faulty_under most s) ∷ row 3 (wrong_volume_lists (voxels_at s) (length l) (length v) (length m) (length o)) ∷ [])

abbrev pub figures_refusal_under : ℕ → List ℕ → ℕ
figures_refusal_under most s = first_of (row 14 (ltb figures_limit (length s)) ∷ row 12 (faulty_under most s) ∷ [])

pub record FileAxesUnder (most : ℕ) (s : List ℕ) (r : Head) : Type 0 where
  pub answer : r ≡ unless_refused (file_refusal_under most s) (head_answer s) (no_head (file_refusal_under most s))

pub record VolumeReadUnder (most : ℕ) (s : List ℕ) (l v : List Float) (m o : List ℕ) (r : Head) (l' v' : List Float) (m' o' : List ℕ) : Type 0 where
  pub answer : r ≡ unless_refused (read_refusal_under most s l v m o) (head_answer s) (no_head (read_refusal_under most s l v m o))
  pub light : l' ≡ unless_refused (read_refusal_under most s l v m o) (light_at s) l
  pub volume : v' ≡ unless_refused (read_refusal_under most s l v m o) (volume_at s) v
  pub active : m' ≡ unless_refused (read_refusal_under most s l v m o) (words_of (active_at s)) m
  pub occupied : o' ≡ unless_refused (read_refusal_under most s l v m o) (words_of (occupied_at s)) o

pub record FileFiguresUnder (most : ℕ) (s : List ℕ) (r : Figures) : Type 0 where
  pub answer : r ≡ unless_refused (figures_refusal_under most s) (figures_answer s) (no_figures (figures_refusal_under most s))

-- the answer, and the four lists as they were lent: never a partial volume
pub record NothingRead (l v : List Float) (m o : List ℕ) (r : Head) (l' v' : List Float) (m' o' : List ℕ) : Type 0 where
  pub answer : r ≡ no_head 12
  pub light : l' ≡ l
  pub volume : v' ≡ v
  pub active : m' ≡ m
  pub occupied : o' ≡ o
