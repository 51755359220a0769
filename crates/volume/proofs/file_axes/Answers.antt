-- One test; then the file is accepted.
use native.Mathlib.Omega.{arith}
use mathlib.Core.Path.{refl, sym}
use Rattle.names.specs.Refusals.{first_of}
use Rattle.volume_file.specs.VolumeFileLaws.{accepted_row, accepted_laid}
use Rattle.volume.specs.Volume.{head_answer, file_refusal}
use Rattle.volume.proofs.Calls.{axes_refused, axes_given}
use Rattle.volume.proofs.file_axes.Goals as goal

pub returns-then-is_faulty : goal.returns-then-is_faulty
unfolding file_refusal first_of
returns-then-is_faulty c = axes_refused c.args.bytes.now 12 (rw (← c.if-is_faulty.ensures) refl) (λ h. omega arith)

pub axes_at-requires : goal.axes_at-requires
axes_at-requires c = ((accepted_row c.args.bytes.now).0 (sym c.if-is_faulty.ensures)).headed.long

pub corners_at-requires : goal.corners_at-requires
corners_at-requires c =
    let f = (accepted_row c.args.bytes.now).0 (sym c.if-is_faulty.ensures) in
    let d = accepted_laid c.args.bytes.now f in (omega (arith, f.headed.contents, f.headed.least), omega (arith, d.corners, d.within))

pub returns : goal.returns
unfolding file_refusal first_of head_answer
returns c = axes_given c.args.bytes.now _ (rw (← c.if-is_faulty.ensures) refl) (rw (c.axes_at.ensures, c.corners_at.ensures) refl)
