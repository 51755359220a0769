-- What each call's answer says of what it was given, and how a call meets its contract from the tests that led to a return.
use Rattle.std.specs.Prelude.{◌≡◌, refl, Bool, true, false, List, [], ◌∷◌, ℕ, ◌+◌, ◌*◌, ◌≤◌, length, Float, Result, Ok, Err}
use Rattle.std.proofs.Common.{sym, ap, ◌∙◌, arith, eqb-true}
use Rattle.std.specs.Result.{IsErr, IsErrAnd}
use Rattle.std.proofs.lemmas.Bool.{not-false}
use Rattle.std.proofs.lemmas.Result.{err_from_is_err_and}
use Rattle.names.specs.declared.refusal.Refusal.{Refusal}
use Rattle.names.specs.Answers.{number_of}
use Rattle.names.specs.AnswersLaws.{number_nonzero}
use Rattle.names.specs.Refusals.{row, first_of, unless_refused, kept, given}
use Rattle.names.specs.Passed.{passed}
use Rattle.names.specs.Numbers.{voxel_limit}
use Rattle.grid.specs.declared.Axes.{Axes}
use Rattle.grid.specs.declared.Corners.{Corners}
use Rattle.grid.specs.Grid.{voxels, AxesWithin}
use Rattle.grid.specs.GridLaws.{voxels_most}
use Rattle.bytes_le.specs.Bytes.{floats_at, bytes_at, NoneNan}
use Rattle.limits.specs.Limits.{bad_axes, bad_lights, bad_coefficients}
use Rattle.limits.specs.LimitsLaws.{axes_row, either, any_of_three}
use Rattle.marks.specs.Marks.{marked_count}
use Rattle.words.specs.Words.{entries_of, words_of, unused_set}
use Rattle.contents.specs.Contents.{axes_at, offset_at}
use Rattle.contents.specs.Laid.{Laid}
use Rattle.volume_file.specs.VolumeFile.{voxels_at, light_at, volume_at, active_at, occupied_at, faulty}
use Rattle.volume_file.specs.VolumeFileLaws.{Accepted, accepted_row, accepted_axes, accepted_laid}
use Rattle.volume_write.specs.FileBytes.{bytes_for, file_bytes, Lent}
use Rattle.volume.specs.declared.FileGrid.{FileGrid}
use Rattle.volume.specs.declared.Head.{Head}
use Rattle.volume.specs.declared.Figures.{Figures}
use Rattle.volume.specs.Volume.{no_head, head_told, head_answer, file_refusal, FileAxes, needed_refusal, VolumeBytes, read_refusal, VolumeRead, wrong_bytes, bad_lists, write_rows, write_refusal, VolumeWritten, zero_count, no_figures, figures_answer, figures_refusal, FileFigures}
use Rattle.volume.specs.VolumeLaws.{lists_row, lights_numbers, coefficients_numbers, BodiesRead}

-- ---- axes that are not bad

pub within : (a : Axes) → false ≡ bad_axes a → AxesWithin a
within a e = (axes_row a).0 (sym e)

pub few : (a : Axes) (n : ℕ) → AxesWithin a → n ≡ voxels a → n ≤ voxel_limit
few a n w e = rw e (voxels_most a w)

-- ---- a file's axes

module _ (s : List ℕ) where
  pub axes_refused : (k : ℕ) → k ≡ file_refusal s → (k ≡ 0 → ⊥) → FileAxes s (no_head k)
  axes_refused k e n = record { answer = kept k (head_answer s) (no_head k) n ∙ rw e refl }

  pub axes_given : (h : Head) → 0 ≡ file_refusal s → h ≡ head_answer s → FileAxes s h
  axes_given h z e = record { answer = e ∙ given _ _ _ (sym z) }

  -- what a refusal says of the file
  pub refused : (r : Refusal) → FileAxes s (head_told (Err r)) → (faulty s ≡ true) × (number_of r ≡ 12)
  unfolding file_refusal first_of unless_refused no_head head_answer
  refused r d = by (faulty s) refl d.answer
    where
      by : (b : Bool) → faulty s ≡ b → no_head (number_of r) ≡ unless_refused (first_of (row 12 b ∷ [])) (head_answer s) (no_head (first_of (row 12 b ∷ [])))
          → (faulty s ≡ true) × (number_of r ≡ 12)
      by true e h = (e, ap (λ (x : Head). x.refusal) h)
      by false e h = absurd (number_nonzero r (ap (λ (x : Head). x.refusal) h))

-- what an answered grid says of the file
module _ (s : List ℕ) (g : FileGrid) (d : FileAxes s (head_told (Ok g))) where
  known : (faulty s ≡ false) × (head_told (Ok g) ≡ head_answer s)
  unfolding file_refusal first_of unless_refused no_head head_answer
  known = by (faulty s) refl d.answer
    where
      by : (b : Bool) → faulty s ≡ b → head_told (Ok g) ≡ unless_refused (first_of (row 12 b ∷ [])) (head_answer s) (no_head (first_of (row 12 b ∷ [])))
          → (faulty s ≡ false) × (head_told (Ok g) ≡ head_answer s)
      by true e h = let z : ◌≡◌ {A = ℕ} 0 12 = ap (λ (x : Head). x.refusal) h in absurd (omega arith)
      by false e h = (e, h)

  pub faultless : faulty s ≡ false
  faultless = known.0

  pub head_is : head_told (Ok g) ≡ head_answer s
  head_is = known.1

  pub axes_are : g.axes ≡ axes_at s
  unfolding head_answer
  axes_are = ap (λ (x : Head). x.axes) head_is

  pub accepted : Accepted s
  accepted = (accepted_row s).0 faultless

  pub axes_fit : AxesWithin g.axes
  axes_fit = rw axes_are (accepted_axes s accepted)

  pub entry_room : 60 ≤ length s
  entry_room = let h = accepted.headed in omega (arith, h.contents, h.least)

  -- where the bodies stand
  module _ (n : ℕ) (y : n ≡ voxels g.axes) where
    pub count_is : n ≡ voxels_at s
    count_is = rw axes_are at y

    laid : Laid s (voxels_at s)
    laid = accepted_laid s accepted

    pub room_light : (off : ℕ) → off ≡ offset_at s 0 → off + n * 4 ≤ length s
    room_light off e = omega (arith, e, count_is, laid.light, laid.within)

    pub room_active : (off : ℕ) → off ≡ offset_at s 2 → off + n ≤ length s
    room_active off e = omega (arith, e, count_is, laid.active, laid.within)

    pub room_occupied : (off : ℕ) → off ≡ offset_at s 3 → off + n ≤ length s
    room_occupied off e = omega (arith, e, count_is, laid.occupied, laid.within)

    pub figures_whole : (o₀ o₂ o₃ z m o : ℕ) → o₀ ≡ offset_at s 0 → o₂ ≡ offset_at s 2 → o₃ ≡ offset_at s 3
        → z ≡ zero_count (floats_at s o₀ n) → m ≡ marked_count (bytes_at s o₂ n) → o ≡ marked_count (bytes_at s o₃ n)
        → record { refusal = 0; width = g.axes.width; height = g.axes.height; depth = g.axes.depth; occupied = o; active = m; zeros = z } ≡ figures_answer s
    unfolding figures_answer
    figures_whole o₀ o₂ o₃ z m o e f h p q r = rw (p, q, r, e, f, h, count_is, axes_are) refl

-- what `?` hands on
pub handed : {A : Type 0} (answer : Result A Refusal) (r : Refusal) → IsErr answer × IsErrAnd answer (λ q. q ≡ r) → answer ≡ Err r
handed answer r h = let p = err_from_is_err_and answer h.1 in p.1 ∙ ap (λ (q : Refusal). Err q) p.2

-- ---- how many bytes

pub bytes_refused : (a : Axes) → true ≡ bad_axes a → VolumeBytes a (record { refusal = 1; bytes = 0 })
unfolding needed_refusal first_of unless_refused
bytes_refused a e = record { answer = rw (← e) refl }

pub bytes_given : (a : Axes) (n : ℕ) → false ≡ bad_axes a → n ≡ voxels a → VolumeBytes a (record { refusal = 0; bytes = 96 + n * 70 })
unfolding needed_refusal first_of unless_refused
bytes_given a n e f = record { answer = rw (← e, f) refl }

-- ---- the reader

module _ (s : List ℕ) (l v : List Float) (m o : List ℕ) where
  pub read_refused : (k : ℕ) → k ≡ read_refusal s l v m o → (k ≡ 0 → ⊥) → VolumeRead s l v m o (no_head k) l v m o
  read_refused k e n =
      record {
        answer = kept k (head_answer s) (no_head k) n ∙ rw e refl;
        light = kept k (light_at s) l n ∙ rw e refl;
        volume = kept k (volume_at s) v n ∙ rw e refl;
        active = kept k (words_of (active_at s)) m n ∙ rw e refl;
        occupied = kept k (words_of (occupied_at s)) o n ∙ rw e refl;
      }

  pub read_given : (h : Head) (l' v' : List Float) (m' o' : List ℕ) → 0 ≡ read_refusal s l v m o → h ≡ head_answer s → BodiesRead s l' v' m' o' → VolumeRead s l v m o h l' v' m' o'
  read_given h l' v' m' o' z e b =
      let y = sym z in
      record {
        answer = e ∙ given _ _ _ y;
        light = b.light ∙ given _ _ _ y;
        volume = b.volume ∙ given _ _ _ y;
        active = b.active ∙ given _ _ _ y;
        occupied = b.occupied ∙ given _ _ _ y;
      }

-- ---- the writer

module _ (a : Axes) (c : Corners) (l v : List Float) (m o b : List ℕ) where
  pub write_refused : (k : ℕ) → k ≡ write_refusal a c l v m o b → (k ≡ 0 → ⊥) → VolumeWritten a c l v m o b k b
  write_refused k e n = record { answer = e; bytes = kept k (file_bytes a c l v (entries_of m (voxels a)) (entries_of o (voxels a))) b n ∙ rw e refl }

  module _ (z : 0 ≡ write_refusal a c l v m o b) where
    pub write_given : (b' : List ℕ) → b' ≡ file_bytes a c l v (entries_of m (voxels a)) (entries_of o (voxels a)) → VolumeWritten a c l v m o b 0 b'
    write_given b' e = record { answer = z; bytes = e ∙ given _ _ _ (sym z) }

    pub writable : (n : ℕ) → n ≡ voxels a → Lent a n (length l) (length v) (length m) (length o) (length b) × NoneNan l × NoneNan v
    unfolding write_refusal wrong_bytes bad_lists
    writable n e =
        let p = passed (write_rows a c l v m o b) (omega arith, (omega arith, (omega arith, (omega arith, tt)))) (sym z) in
        let f = (either _ (wrong_bytes (voxels a) (length b))).0 p.1.1.0 in
        let q = lists_row (voxels a) (length l) (length v) (length m) (length o) f.0 in
        let g = (either _ (unused_set o (voxels a))).0 p.1.1.1.0 in
        let t = (any_of_three (bad_lights l) (bad_coefficients v) (unused_set m (voxels a))).0 g.0 in (
          rw e
              (record {
                axes = (axes_row a).0 p.0;
                count = refl;
                light = q.0;
                volume = q.1;
                active = q.2;
                occupied = q.3;
                bytes = eqb-true (length b) (bytes_for (voxels a)) (not-false _ f.1);
              }),
          lights_numbers l t.0,
          coefficients_numbers v t.1,
        )

-- ---- the figures

pub figures_refused : (s : List ℕ) (k : ℕ) → k ≡ figures_refusal s → (k ≡ 0 → ⊥) → FileFigures s (no_figures k)
figures_refused s k e n = record { answer = kept k (figures_answer s) (no_figures k) n ∙ rw e refl }

pub figures_given : (s : List ℕ) (f : Figures) → 0 ≡ figures_refusal s → f ≡ figures_answer s → FileFigures s f
figures_given s f z e = record { answer = e ∙ given _ _ _ (sym z) }
