-- A reader whose axes end at any limit (specs/AnyLimit.antt): at `axis_limit` its contracts are those of these calls; above its limit it answers 12, and of every other file it says what a reader of a higher limit says.
use Rattle.std.specs.Prelude.{◌≡◌, refl, Bool, true, false, not, ◌||◌, List, [], ◌∷◌, ◌↔◌, ℕ, ◌≤◌, ltb, length, Float}
use Rattle.std.proofs.Common.{ap, ◌∙◌, le-ltb}
use Rattle.names.specs.Numbers.{axis_limit, figures_limit}
use Rattle.names.specs.Refusals.{row, first_of, unless_refused}
use Rattle.limits.specs.Limits.{bad_axes_under, bad_axes}
use Rattle.limits.specs.LimitsLaws.{Above, above_limit, NoneAbove, raised_limit}
use Rattle.contents.specs.Contents.{headed, axes_at}
use Rattle.volume_file.specs.VolumeFile.{voxels_at, light_at, volume_at, active_at, occupied_at, faulty_where, faulty}
use Rattle.words.specs.Words.{words_of}
use Rattle.volume.specs.declared.Head.{Head}
use Rattle.volume.specs.declared.Figures.{Figures}
use Rattle.volume.specs.Volume.{no_head, head_answer, file_refusal, FileAxes, wrong_volume_lists, read_refusal, VolumeRead, no_figures, figures_answer, figures_refusal, FileFigures}
use Rattle.volume_laws.specs.AnyLimit.{NothingRead, faulty_under, file_refusal_under, read_refusal_under, figures_refusal_under, FileAxesUnder, VolumeReadUnder, FileFiguresUnder}

-- ---- at `axis_limit` they are these calls

pub axes_under_this : (s : List ℕ) (r : Head) → FileAxes s r ↔ FileAxesUnder axis_limit s r
unfolding file_refusal faulty bad_axes
axes_under_this s r = (λ d. record { answer = d.answer }, λ d. record { answer = d.answer })

pub read_under_this : (s : List ℕ) (l v : List Float) (m o : List ℕ) (r : Head) (l' v' : List Float) (m' o' : List ℕ)
    → VolumeRead s l v m o r l' v' m' o' ↔ VolumeReadUnder axis_limit s l v m o r l' v' m' o'
unfolding read_refusal faulty bad_axes
read_under_this s l v m o r l' v' m' o' = (
  λ d. record { answer = d.answer; light = d.light; volume = d.volume; active = d.active; occupied = d.occupied },
  λ d. record { answer = d.answer; light = d.light; volume = d.volume; active = d.active; occupied = d.occupied },
)

pub figures_under_this : (s : List ℕ) (r : Figures) → FileFigures s r ↔ FileFiguresUnder axis_limit s r
unfolding figures_refusal faulty bad_axes
figures_under_this s r = (λ d. record { answer = d.answer }, λ d. record { answer = d.answer })

-- ---- an axis above the limit: 12, and nothing is written

faulty_where_bad : (s : List ℕ) → faulty_where true s ≡ true
faulty_where_bad s = by (headed s)
  where
    by : (b : Bool) → (not b || true) ≡ true
    by true = refl
    by false = refl

faulty_above : (most : ℕ) (s : List ℕ) → Above most (axes_at s) → faulty_under most s ≡ true
faulty_above most s h = ap (λ (b : Bool). faulty_where b s) (above_limit most (axes_at s) h) ∙ faulty_where_bad s

pub axes_above : (most : ℕ) (s : List ℕ) (r : Head) → Above most (axes_at s) → FileAxesUnder most s r → r ≡ no_head 12
unfolding first_of unless_refused
axes_above most s r h d = d.answer ∙ rw (faulty_above most s h) refl

pub read_above : (most : ℕ) (s : List ℕ) (l v : List Float) (m o : List ℕ) (r : Head) (l' v' : List Float) (m' o' : List ℕ)
    → Above most (axes_at s) → VolumeReadUnder most s l v m o r l' v' m' o' → NothingRead l v m o r l' v' m' o'
unfolding first_of unless_refused
read_above most s l v m o r l' v' m' o' h d =
    let e = faulty_above most s h in
    record {
      answer = d.answer ∙ rw e refl;
      light = d.light ∙ rw e refl;
      volume = d.volume ∙ rw e refl;
      active = d.active ∙ rw e refl;
      occupied = d.occupied ∙ rw e refl;
    }

-- volstat's, for a file that it takes at all
pub figures_above : (most : ℕ) (s : List ℕ) (r : Figures) → length s ≤ figures_limit → Above most (axes_at s) → FileFiguresUnder most s r → r ≡ no_figures 12
unfolding first_of unless_refused
figures_above most s r l h d = d.answer ∙ rw (le-ltb figures_limit (length s) l, faulty_above most s h) refl

-- ---- no axis above the limit: a higher one says the same

same_fault : (old new : ℕ) (s : List ℕ) → old ≤ new → NoneAbove old (axes_at s) → faulty_under new s ≡ faulty_under old s
same_fault old new s l e = ap (λ (b : Bool). faulty_where b s) (raised_limit old new (axes_at s) l e)

pub axes_raised : (old new : ℕ) (s : List ℕ) (r : Head) → old ≤ new → NoneAbove old (axes_at s) → FileAxesUnder old s r ↔ FileAxesUnder new s r
axes_raised old new s r l e =
    let f = same_fault old new s l e in
    (λ d. record { answer = d.answer ∙ rw f refl }, λ d. record { answer = d.answer ∙ rw f refl })

pub read_raised : (old new : ℕ) (s : List ℕ) (l v : List Float) (m o : List ℕ) (r : Head) (l' v' : List Float) (m' o' : List ℕ)
    → old ≤ new → NoneAbove old (axes_at s) → VolumeReadUnder old s l v m o r l' v' m' o' ↔ VolumeReadUnder new s l v m o r l' v' m' o'
read_raised old new s l v m o r l' v' m' o' b e =
    let f = same_fault old new s b e in (
      λ d.
          record {
            answer = d.answer ∙ rw f refl;
            light = d.light ∙ rw f refl;
            volume = d.volume ∙ rw f refl;
            active = d.active ∙ rw f refl;
            occupied = d.occupied ∙ rw f refl;
          },
      λ d.
          record {
            answer = d.answer ∙ rw f refl;
            light = d.light ∙ rw f refl;
            volume = d.volume ∙ rw f refl;
            active = d.active ∙ rw f refl;
            occupied = d.occupied ∙ rw f refl;
          },
    )

pub figures_raised : (old new : ℕ) (s : List ℕ) (r : Figures) → old ≤ new → NoneAbove old (axes_at s) → FileFiguresUnder old s r ↔ FileFiguresUnder new s r
figures_raised old new s r l e =
    let f = same_fault old new s l e in
    (λ d. record { answer = d.answer ∙ rw f refl }, λ d. record { answer = d.answer ∙ rw f refl })
