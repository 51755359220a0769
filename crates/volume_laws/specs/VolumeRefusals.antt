-- What a refusal of the calls over a volume file means: k is answered exactly when row k of the call's own rows holds and none before it
-- does, and 0 exactly when none holds. Said of whatever answer a contract allows.
use Rattle.std.specs.Prelude.{◌≡◌, refl, Bool, true, false, cond, List, ℕ, eqb, Float}
use Rattle.std.proofs.Common.{sym, ap, ◌∙◌, arith, eqb-true}
use Rattle.names.specs.Refusals.{unless_refused, RefusedBy, refused_by}
use Rattle.grid.specs.declared.Axes.{Axes}
use Rattle.grid.specs.declared.Corners.{Corners}
use Rattle.volume.specs.declared.Head.{Head}
use Rattle.volume.specs.declared.Needed.{Needed}
use Rattle.volume.specs.declared.Figures.{Figures}
use Rattle.volume.specs.Volume.{no_head, head_answer, file_rows, file_refusal, FileAxes, needed_rows, needed_refusal, VolumeBytes, read_rows, read_refusal, VolumeRead, write_rows, write_refusal, VolumeWritten, no_figures, figures_answer, figures_rows, figures_refusal, FileFigures}

-- an answer that carries 0 beside what was asked, and its refusal beside zeros, carries the refusal
carried : {A : Type 0} (refusal : A → ℕ) (k : ℕ) (new old : A) → refusal new ≡ 0 → refusal old ≡ k → refusal (unless_refused k new old) ≡ k
unfolding unless_refused
carried refusal k new old p q = by (eqb k 0) refl
  where
    by : (b : Bool) → eqb k 0 ≡ b → refusal (cond b new old) ≡ k
    by true e = p ∙ sym (eqb-true k 0 e)
    by false e = q

head_carried : (s : List ℕ) (k : ℕ) (r : Head) → r ≡ unless_refused k (head_answer s) (no_head k) → r.refusal ≡ k
unfolding head_answer no_head
head_carried s k r e = ap (λ (h : Head). h.refusal) e ∙ carried (λ (h : Head). h.refusal) k (head_answer s) (no_head k) refl refl

pub file_axes_refused_by : (s : List ℕ) (r : Head) → FileAxes s r → RefusedBy (file_rows s) r.refusal
unfolding file_refusal
file_axes_refused_by s r a = refused_by (file_rows s) r.refusal (omega arith, tt) (head_carried s (file_refusal s) r a.answer)

pub volume_bytes_refused_by : (a : Axes) (r : Needed) → VolumeBytes a r → RefusedBy (needed_rows a) r.refusal
unfolding needed_refusal
volume_bytes_refused_by a r d =
    refused_by (needed_rows a) r.refusal (omega arith, tt)
    (ap (λ (x : Needed). x.refusal) d.answer ∙ carried (λ (x : Needed). x.refusal) (needed_refusal a) _ _ refl refl)

pub read_volume_refused_by : (s : List ℕ) (l v : List Float) (m o : List ℕ) (r : Head) (l' v' : List Float) (m' o' : List ℕ)
    → VolumeRead s l v m o r l' v' m' o' → RefusedBy (read_rows s l v m o) r.refusal
unfolding read_refusal
read_volume_refused_by s l v m o r l' v' m' o' a =
    refused_by (read_rows s l v m o) r.refusal (omega arith, (omega arith, tt)) (head_carried s (read_refusal s l v m o) r a.answer)

pub write_volume_refused_by : (a : Axes) (c : Corners) (l v : List Float) (m o b : List ℕ) (r : ℕ) (b' : List ℕ)
    → VolumeWritten a c l v m o b r b' → RefusedBy (write_rows a c l v m o b) r
unfolding write_refusal
write_volume_refused_by a c l v m o b r b' d =
    refused_by (write_rows a c l v m o b) r (omega arith, (omega arith, (omega arith, (omega arith, tt)))) d.answer

pub file_figures_refused_by : (s : List ℕ) (r : Figures) → FileFigures s r → RefusedBy (figures_rows s) r.refusal
unfolding figures_refusal figures_answer no_figures
file_figures_refused_by s r a =
    refused_by (figures_rows s) r.refusal (omega arith, (omega arith, tt))
    (ap (λ (x : Figures). x.refusal) a.answer
    ∙ carried (λ (x : Figures). x.refusal) (figures_refusal s) (figures_answer s) (no_figures (figures_refusal s)) refl refl)
