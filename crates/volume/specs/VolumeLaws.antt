-- What the public calls' records say: two results of one call are equal; and the places that an accepted file has room for.
use Rattle.std.specs.Prelude.{◌≡◌, refl, true, false, not, List, ℕ, ◌+◌, ◌*◌, ◌<◌, ◌≤◌, eqb, length, get_or, Float}
use Rattle.std.proofs.Common.{sym, ◌∙◌, arith, eqb-true}
use Rattle.std.proofs.lemmas.Bool.{not-false}
use Rattle.std.specs.Float.Ieee as Ieee
use Rattle.std.specs.Float.Ieee.Scale.{finite}
use Rattle.std.specs.Float.{nan}
use Rattle.names.specs.Numbers.{light_limit, coefficient_limit}
use Rattle.floats.specs.FiniteLaws.{finite_number}
use Rattle.grid.specs.declared.Axes.{Axes}
use Rattle.grid.specs.declared.Corners.{Corners}
use Rattle.limits.specs.Limits.{within, wrong_length, bad_lights, bad_coefficients}
use Rattle.limits.specs.LimitsLaws.{either, any_of_three, limit_finite, lights_row, coefficients_row}
use Rattle.words.specs.Words.{word_count, words_of}
use Rattle.bytes_le.specs.Bytes.{NoneNan}
use Rattle.contents.specs.Contents.{offset_at}
use Rattle.contents.specs.Laid.{Laid}
use Rattle.volume_file.specs.VolumeFile.{voxels_at, light_at, volume_at, active_at, occupied_at}
use Rattle.volume_file.specs.VolumeFileLaws.{Accepted, accepted_laid}
use Rattle.volume.specs.declared.Head.{Head}
use Rattle.volume.specs.declared.Needed.{Needed}
use Rattle.volume.specs.declared.Figures.{Figures}
use Rattle.volume.specs.Volume.{wrong_volume_lists, FileAxes, VolumeBytes, VolumeRead, VolumeWritten, FileFigures}

-- ---- one answer, and one content of each list

pub file_axes_one : (s : List ℕ) (r t : Head) → FileAxes s r → FileAxes s t → r ≡ t
file_axes_one s r t p q = p.answer ∙ sym q.answer

pub volume_bytes_one : (a : Axes) (r t : Needed) → VolumeBytes a r → VolumeBytes a t → r ≡ t
volume_bytes_one a r t p q = p.answer ∙ sym q.answer

pub file_figures_one : (s : List ℕ) (r t : Figures) → FileFigures s r → FileFigures s t → r ≡ t
file_figures_one s r t p q = p.answer ∙ sym q.answer

pub volume_read_one : (s : List ℕ) (l v : List Float) (m o : List ℕ) (r t : Head) (l₁ l₂ v₁ v₂ : List Float) (m₁ m₂ o₁ o₂ : List ℕ)
    → VolumeRead s l v m o r l₁ v₁ m₁ o₁ → VolumeRead s l v m o t l₂ v₂ m₂ o₂
    → (r ≡ t) × (l₁ ≡ l₂) × (v₁ ≡ v₂) × (m₁ ≡ m₂) × (o₁ ≡ o₂)
volume_read_one s l v m o r t l₁ l₂ v₁ v₂ m₁ m₂ o₁ o₂ p q =
    (p.answer ∙ sym q.answer, p.light ∙ sym q.light, p.volume ∙ sym q.volume, p.active ∙ sym q.active, p.occupied ∙ sym q.occupied)

pub volume_written_one : (a : Axes) (c : Corners) (l v : List Float) (m o b : List ℕ) (r t : ℕ) (b₁ b₂ : List ℕ)
    → VolumeWritten a c l v m o b r b₁ → VolumeWritten a c l v m o b t b₂ → (r ≡ t) × (b₁ ≡ b₂)
volume_written_one a c l v m o b r t b₁ b₂ p q = (p.answer ∙ sym q.answer, p.bytes ∙ sym q.bytes)

-- ---- what row 3 means

pub lists_row : (n l v m o : ℕ) → wrong_volume_lists n l v m o ≡ false → (l ≡ n) × (v ≡ n * 16) × (m ≡ word_count n) × (o ≡ word_count n)
unfolding wrong_volume_lists
lists_row n l v m o e =
    let p = (either _ (wrong_length o (word_count n))).0 e in
    let q = (any_of_three (wrong_length l n) (wrong_length v (n * 16)) (wrong_length m (word_count n))).0 p.0 in
    (exact l n q.0, exact v (n * 16) q.1, exact m (word_count n) q.2, exact o (word_count n) p.1)
  where
    exact : (x y : ℕ) → not (eqb x y) ≡ false → x ≡ y
    exact x y f = eqb-true x y (not-false _ f)

-- ---- what row 13 means for the writer: no NaN

pub light_limit_finite : finite light_limit ≡ true
unfolding Ieee.of_bits
light_limit_finite = refl

pub coefficient_limit_finite : finite coefficient_limit ≡ true
unfolding Ieee.of_bits
coefficient_limit_finite = refl

-- numbers within a finite bound are no NaN
pub within_numbers : (b : Float) → finite b ≡ true → (l : List Float) → ((i : ℕ) → i < length l → within b (get_or l i nan) ≡ true) → NoneNan l
within_numbers b f l w i h = finite_number (get_or l i nan) (limit_finite b (get_or l i nan) f (w i h))

pub lights_numbers : (l : List Float) → bad_lights l ≡ false → NoneNan l
lights_numbers l e = within_numbers light_limit light_limit_finite l ((lights_row l).0 e)

pub coefficients_numbers : (v : List Float) → bad_coefficients v ≡ false → NoneNan v
coefficients_numbers v e = within_numbers coefficient_limit coefficient_limit_finite v ((coefficients_row v).0 e)

-- ---- room for the lists that are read

-- lists of these lengths are read from within the file
pub record Room (s : List ℕ) (n l v m o : ℕ) : Type 0 where
  pub count : n ≡ voxels_at s
  pub contents : 72 ≤ length s
  pub lights : l ≡ voxels_at s
  pub light : offset_at s 0 + l * 4 ≤ length s
  pub coefficients : v ≡ voxels_at s * 16
  pub volume : offset_at s 1 + v * 4 ≤ length s
  pub actives : m ≡ word_count (voxels_at s)
  pub active : offset_at s 2 + voxels_at s ≤ length s
  pub occupieds : o ≡ word_count (voxels_at s)
  pub occupied : offset_at s 3 + voxels_at s ≤ length s

pub accepted_room : (s : List ℕ) → Accepted s → (n l v m o : ℕ) → n ≡ voxels_at s → l ≡ voxels_at s → v ≡ voxels_at s * 16 → m ≡ word_count (voxels_at s) → o ≡ word_count (voxels_at s) → Room s n l v m o
accepted_room s a n l v m o c p q r t =
    let d : Laid s (voxels_at s) = accepted_laid s a in
    record {
      count = c;
      contents = omega (arith, a.headed.contents, a.headed.least);
      lights = p;
      light = omega (arith, d.light, d.within);
      coefficients = q;
      volume = omega (arith, d.volume, d.within);
      actives = r;
      active = omega (arith, d.active, d.within);
      occupieds = t;
      occupied = omega (arith, d.occupied, d.within);
    }

pub record BodiesRead (s : List ℕ) (l v : List Float) (m o : List ℕ) : Type 0 where
  pub light : l ≡ light_at s
  pub volume : v ≡ volume_at s
  pub active : m ≡ words_of (active_at s)
  pub occupied : o ≡ words_of (occupied_at s)
